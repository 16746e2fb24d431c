use Rattle.std.proofs.Common.{◌<◌, ◌∙◌, arith, length, sym}
use Rattle.omf_place.specs.Layout.{places_of}
use Rattle.link_map.proofs.Grouped.{group-placed, group-within}
use Rattle.link_map.proofs.parts.DetailedInput.position.Goals as goal

pub group_frame-requires-clause-group : goal.group_frame-requires-clause-group
group_frame-requires-clause-group g c =
    let within : c.in-Some-Relocatable.group < length c.args.self.now.from.now.groups =
    group-within c.args.self.now.from.now.groups c.args.segment c.in-Some-Relocatable.group
    (sym c.in-Some-Relocatable.is-0 ∙ c.requires.grouped) in
    omega (arith, within, c.requires.placed.groups)

pub returns-in-Some-Relocatable : goal.returns-in-Some-Relocatable
returns-in-Some-Relocatable g c =
    group-placed (places_of c.args.self.now.layout.now c.args.self.now.input) c.args.self.now.from.now.groups
    c.args.segment c.in-Some-Relocatable.group c.in-Some-Relocatable.address _ _ _
    (sym c.in-Some-Relocatable.is-0 ∙ c.requires.grouped) c.requires.placed.groups
    (sym c.segment_position-position.ensures ∙ c.in-Some-Relocatable.is-1) c.group_frame.ensures
