use Rattle.std.proofs.Common.{◌≤◌, length, map, ap, ◌∙◌, arith}
use Rattle.std.proofs.lemmas.List.{take_all}
use Rattle.std.specs.List.{flat_map}
use Rattle.omf_place.specs.Tables.{publics_of}
use Rattle.omf_place.specs.inside.HeldNames.{entry_view}
use Rattle.omf_place.specs.inside.OfProgram.{of_program}
use Rattle.omf_place.specs.Parts.{sites}
use Rattle.omf_place.specs.inside.Program.{IsPlacedInput, addresses_of, input_view}
use Rattle.omf_place.proofs.Turns.{at_turn}
use Rattle.omf_place.proofs.publics.collect_publics.Goals as goal

pub loop-input-init : goal.loop-input-init
loop-input-init g c = ap (map entry_view) c.new-all.ensures.items

pub push_publics-requires : goal.push_publics-requires
push_publics-requires g c =
    let p = c.args.groups.now.program.now in
    at_turn (IsPlacedInput (sites p.modules.now) (addresses_of p.stands.now)) p.inputs.items
    c.deref-input-items.result.now c.loop-input.input-index c.input-item.result
    c.deref-input-items.ensures.value c.requires.each c.loop-input-test.true c.input-item.is

pub returns : goal.returns
returns g c =
    let p = c.args.groups.now.program.now in
    let whole : length p.inputs.items ≤ c.loop-input.input-index =
    omega (arith, ap length c.deref-input-items.ensures.value, c.loop-input-test.false) in
    c.loop-input.invariant
    ∙ ap (flat_map (of_program publics_of p))
    (ap (map input_view) (take_all c.loop-input.input-index p.inputs.items whole) ∙ c.requires.made)
