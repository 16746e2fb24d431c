use Rattle.std.proofs.Common.{◌≡◌, take, map}
use Rattle.std.specs.List.{flat_map}
use Rattle.omf_place.specs.Tables.{publics_of}
use Rattle.omf_place.specs.inside.HeldNames.{entry_view}
use Rattle.omf_place.specs.inside.OfProgram.{of_program}
use Rattle.omf_place.specs.inside.Program.{input_view}
use Rattle.omf_place.proofs.publics.collect_publics.Given as goal

abbrev pub invariant-loop-input : goal.invariant-loop-input
invariant-loop-input g l =
    map entry_view l.all.items
    ≡ flat_map (of_program publics_of l.groups.program.now)
    (map input_view (take l.input-index l.groups.program.now.inputs.items))
