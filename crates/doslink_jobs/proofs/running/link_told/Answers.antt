use Rattle.std.proofs.Common.{ap, map, ◌∙◌}
use Rattle.omf_search.specs.Results.{module_said}
use Rattle.doslink_stock.specs.Files.{needs}
use Rattle.doslink_stock.specs.Seen.{handed_held}
use Rattle.doslink_passes.proofs.Lists.{map-map}
use Rattle.doslink_jobs.proofs.running.link_told.Goals as goal

pub link_taken-requires : goal.link_taken-requires
link_taken-requires g c =
    ap (map module_said) c.deref.ensures.value ∙ c.in_ok-says.ensures
    ∙ map-map handed_held needs c.args.taken.now.handed.now

pub returns : goal.returns
returns g c = c.link_taken.ensures
