use Rattle.std.proofs.Common.{◌∙◌, ◌++◌, Bool, List, ap, sym, map}
use Rattle.std.proofs.lemmas.List.{map-append}
use Rattle.byte_places.specs.Gaps.{begins_gap, gap_at}
use Rattle.byte_places.specs.inside.Found.{found_at}
use Rattle.byte_places.proofs.Listing.{below, below-more}
use Rattle.byte_places.proofs.spans.gaps.Goals as goal

pub loop-start-preserved : goal.loop-start-preserved
loop-start-preserved g c =
    let flags = c.in_ok-flags.flags.items in
    let loop = c.loop-start in
    let begins = begins_gap flags in
    c.in_ok-push_gap.ensures
    ∙ ap (λ (fs : List Bool). loop.found.items ++ map (gap_at fs) (found_at (begins_gap fs) loop.start))
    c.deref.ensures.value
    ∙ ap (λ l. l ++ map (gap_at flags) (found_at begins loop.start)) loop.invariant
    ∙ sym (map-append (gap_at flags) (below begins loop.start) (found_at begins loop.start))
    ∙ ap (map (gap_at flags)) (sym (below-more begins loop.start))
