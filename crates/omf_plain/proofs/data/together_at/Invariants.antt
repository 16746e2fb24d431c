use Rattle.std.proofs.Common.{◌≡◌, map, drop}
use Rattle.omf_plain.specs.Data.{together_at}
use Rattle.omf_plain.specs.View.{content_view}
use Rattle.omf_plain.proofs.data.together_at.Given as goal

-- those that are left decide
abbrev pub invariant-loop-content : goal.invariant-loop-content
invariant-loop-content l =
    together_at (map content_view (drop l.content-index l.contents)) l.place
    ≡ together_at (map content_view l.contents) l.place
