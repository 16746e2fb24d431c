use Rattle.std.proofs.Common.{◌≡◌, map, drop}
use Rattle.omf_plain.specs.Data.{said_place}
use Rattle.omf_plain.specs.View.{wide_content_view}
use Rattle.omf_plain.proofs.data.said_place.Given as goal

-- those that are left decide
abbrev pub invariant-loop-content : goal.invariant-loop-content
invariant-loop-content l =
    said_place (map wide_content_view (drop l.content-index l.contents)) l.place
    ≡ said_place (map wide_content_view l.contents) l.place
