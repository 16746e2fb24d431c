use Rattle.std.proofs.Common.{◌≡◌, List, map}
use Rattle.omf_record.specs.Records.{Placed}
use Rattle.omf_module.specs.Tables.{module_of}
use Rattle.omf_commands.proofs.InputSteps.{SoFar}
use Rattle.omf_commands.proofs.inputs.read_inputs.Given as goal

abbrev pub invariant-loop-input : goal.invariant-loop-input
invariant-loop-input g l =
    (lists : List (List Placed))
    × SoFar g.S.Source.remaining g.S.Source.failures lists l.input l.initial.sources l.sources
    × (l.modules.items ≡ map module_of lists)
