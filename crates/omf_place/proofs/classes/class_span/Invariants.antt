use Rattle.std.proofs.Common.{◌≡◌, drop, filter, fold, None, Option, ℕ}
use Rattle.omf_place.specs.Classes.{is_of}
use Rattle.omf_place.specs.Parts.{Site}
use Rattle.omf_place.specs.Tables.{widen, segment_start, segment_end}
use Rattle.omf_place.specs.inside.Sites.{sites_view}
use Rattle.omf_place.specs.inside.Spans.{addresses_in}
use Rattle.omf_place.proofs.classes.class_span.Given as goal

-- those that are left widen the span to that of all
abbrev pub invariant-loop-index : goal.invariant-loop-index
invariant-loop-index l =
    let ss = sites_view l.sites in
    let A = addresses_in l.spans in
    let more : Option (ℕ × ℕ) → Site → Option (ℕ × ℕ) =
    λ s a. widen s (segment_start ss A a) (segment_end ss A a) in
    fold more l.span (filter (is_of l.class) (drop l.index ss)) ≡ fold more None (filter (is_of l.class) ss)
