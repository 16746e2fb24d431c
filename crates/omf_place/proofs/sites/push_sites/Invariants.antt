use Rattle.std.proofs.Common.{◌≡◌, ◌+◌, ◌++◌, length, take}
use Rattle.omf_place.specs.Parts.{module_sites, Site}
use Rattle.std.specs.List.{AllByRecursion}
use Rattle.omf_module.specs.Sound.{SegmentFits}
use Rattle.omf_place.specs.inside.Sites.{sites_view}
use Rattle.omf_place.proofs.sites.push_sites.Given as goal

abbrev pub invariant-loop-number : goal.invariant-loop-number
invariant-loop-number g l = record {
  count : length l.sites.items ≡ length l.initial.sites.items + l.number;
  made : sites_view l.sites.items
      ≡ sites_view l.initial.sites.items
      ++ module_sites (length l.initial.sites.items) l.input 0 (take l.number l.from.segments);
  sound : AllByRecursion (λ (a : Site). SegmentFits a.segment) (sites_view l.sites.items);
}
