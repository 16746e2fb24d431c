use Rattle.std.proofs.Common.{◌≡◌, ◌++◌, take, map}
use Rattle.std.specs.List.{flat_map}
use Rattle.std.specs.Option.{option_map, option_to_list}
use Rattle.omf_module.specs.Module.{PublicSymbol}
use Rattle.omf_place.specs.inside.HeldNames.{entry_view}
use Rattle.omf_place.specs.inside.OfProgram.{of_program}
use Rattle.omf_place.specs.inside.Program.{input_view}
use Rattle.omf_place.specs.Tables.{placed_public}
use Rattle.omf_place.specs.inside.Steps.{public_entry}
use Rattle.omf_place.proofs.publics.push_publics.Given as goal

abbrev pub invariant-loop-index : goal.invariant-loop-index
invariant-loop-index g l = map entry_view l.all.items ≡ map entry_view l.initial.all.items
    ++ flat_map
    (λ (p : PublicSymbol).
    option_to_list
    (option_map (public_entry l.input.input p)
    (of_program placed_public l.groups.program.now (input_view l.input) p.offset p.base)))
    (take l.index l.input.says.now.publics)
