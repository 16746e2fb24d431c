use Rattle.std.proofs.Common.{◌≡◌, map, take}
use Rattle.omf_place.specs.inside.Greatest.{answer}
use Rattle.omf_place.specs.inside.Sites.{sites_view}
use Rattle.omf_place.proofs.greatest.greatest_of.Given as goal

abbrev pub invariant-loop-segment : goal.invariant-loop-segment
invariant-loop-segment g l = l.answers.items ≡ map (answer l.asked) (sites_view (take l.segment-index l.sites))
