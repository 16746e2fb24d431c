use Rattle.std.proofs.Common.{◌≡◌, take, map}
use Rattle.std.specs.List.{AllByRecursion}
use Rattle.omf_place.specs.Parts.{inputs_from}
use Rattle.omf_place.specs.inside.Program.{addresses_of, HasStands, IsSoundInput, input_view}
use Rattle.omf_place.specs.inside.Sites.{sites_view}
use Rattle.omf_place.proofs.InputLists.{start_of}
use Rattle.omf_place.proofs.inputs.collect_inputs.Given as goal

abbrev pub invariant-loop-input : goal.invariant-loop-input
invariant-loop-input g l = record {
  start : l.start ≡ start_of l.input l.modules;
  made : map input_view l.all.items ≡ inputs_from 0 0 (take l.input l.modules);
  stands : AllByRecursion (HasStands (sites_view l.sites) (addresses_of l.stands)) l.all.items;
  sound : AllByRecursion IsSoundInput l.all.items;
}
