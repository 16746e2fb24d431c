use Rattle.std.proofs.Common.{◌≡◌, map, drop}
use Rattle.omf_plain.specs.Data.{as_given, together_at}
use Rattle.omf_plain.specs.View.{wide_content_view}
use Rattle.omf_plain.proofs.data.wide_together_at.Given as goal

-- those that are left decide
abbrev pub invariant-loop-content : goal.invariant-loop-content
invariant-loop-content l =
    together_at (map as_given (map wide_content_view (drop l.content-index l.contents))) l.place
    ≡ together_at (map as_given (map wide_content_view l.contents)) l.place
