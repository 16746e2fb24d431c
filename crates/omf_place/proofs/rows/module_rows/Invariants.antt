use Rattle.std.proofs.Common.{◌≡◌, take, map}
use Rattle.omf_place.specs.Layout.{module_places}
use Rattle.omf_place.specs.Rows.{row_view}
use Rattle.omf_place.specs.inside.OfProgram.{of_program}
use Rattle.omf_place.specs.inside.Program.{input_view}
use Rattle.omf_place.proofs.rows.module_rows.Given as goal

abbrev pub invariant-loop-input : goal.invariant-loop-input
invariant-loop-input g l =
    map row_view l.all.items
    ≡ map (of_program module_places l.groups.program.now)
    (map input_view (take l.input-index l.groups.program.now.inputs.items))
