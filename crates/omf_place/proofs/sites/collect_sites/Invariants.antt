use Rattle.std.proofs.Common.{◌≡◌, take}
use Rattle.omf_place.specs.Parts.{Site}
use Rattle.omf_place.specs.inside.Placing.{sites_from}
use Rattle.std.specs.List.{AllByRecursion}
use Rattle.omf_module.specs.Sound.{SegmentFits}
use Rattle.omf_place.specs.inside.Sites.{sites_view}
use Rattle.omf_place.proofs.sites.collect_sites.Given as goal

abbrev pub invariant-loop-input : goal.invariant-loop-input
invariant-loop-input g l = record {
  made : sites_view l.sites.items ≡ sites_from 0 0 (take l.input l.modules);
  sound : AllByRecursion (λ (a : Site). SegmentFits a.segment) (sites_view l.sites.items);
}
