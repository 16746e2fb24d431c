use Rattle.std.proofs.Common.{◌≡◌, ◌+◌, ◌&&◌, ◌∙◌, ap, length, nat_lt, subst, sym}
use Rattle.omf_module.specs.Grouped.{greatest_index, grouped, joining, with_part}
use Rattle.omf_module.specs.Sound.{IsSound}
use Rattle.omf_module.proofs.Joining.{joining_short}
use Rattle.omf_module.proofs.GroupedIs.{grouped_is, module_of, part_is, some_of, stays_as_it_is}
use Rattle.omf_module.proofs.GroupedSound.{sound_with_part}
use Rattle.omf_module.proofs.grouping.group_class.Goals as goal

pub members_of-requires : goal.members_of-requires
members_of-requires g c =
    let store = c.into_parts-store.result.0 in
    rw (c.as_slice-joined.ensures.value, c.in_ok-marks.ensures) (joining_short c.args.class.now store.segments store.groups)

pub from_parts-requires-2 : goal.from_parts-requires-2
from_parts-requires-2 g c =
    let (store, start) = c.into_parts-store.result in
    let m = module_of store start in
    let is : c.as_slice-joined.result.now ≡ joining c.args.class.now store.segments store.groups =
    c.as_slice-joined.ensures.value ∙ c.in_ok-marks.ensures in
    let part =
    part_is c.as_slice-joined.result.now c.args.name.now c.in_ok-members_of.field-0.items
    (c.group_count-groups.result + 1) store c.push_members.new.self c.count_from_group.new.self start
    c.start_in-start.result c.in_ok-members_of.ensures (ap (λ n. n + 1) c.group_count-groups.ensures)
    c.in_ok-push_members.ensures c.count_from_group.ensures c.start_in-start.ensures in
    subst IsSound (sym (part ∙ ap (λ js. with_part js (length store.groups + 1) c.args.name.now m) is))
    (sound_with_part c.args.class.now c.args.name.now m
    (subst IsSound c.into_parts-store.ensures.parts c.into_parts-store.ensures.sound) c.requires)

pub returns : goal.returns
returns g c =
    let (store, start) = c.into_parts-store.result in
    let m = module_of store start in
    let is : c.as_slice-joined.result.now ≡ joining c.args.class.now store.segments store.groups =
    c.as_slice-joined.ensures.value ∙ c.in_ok-marks.ensures in
    let part =
    part_is c.as_slice-joined.result.now c.args.name.now c.in_ok-members_of.field-0.items
    (c.group_count-groups.result + 1) store c.push_members.new.self c.count_from_group.new.self start
    c.start_in-start.result c.in_ok-members_of.ensures (ap (λ n. n + 1) c.group_count-groups.ensures)
    c.in_ok-push_members.ensures c.count_from_group.ensures c.start_in-start.ensures in
    c.from_parts-2.ensures ∙ part
    ∙ grouped_is c.args.class.now m c.as_slice-joined.result.now is c.args.name.now
    (ap (λ n. some_of c.as_slice-joined.result.now && nat_lt n greatest_index) (sym c.group_count-groups.ensures)
    ∙ sym c.gets_part.ensures ∙ c.if-not-gets_part.false)
    ∙ ap (grouped c.args.class.now c.args.name.now) (sym c.into_parts-store.ensures.parts)

pub returns-then-not-gets_part : goal.returns-then-not-gets_part
returns-then-not-gets_part g c =
    let (store, start) = c.into_parts-store.result in
    let m = module_of store start in
    let is : c.as_slice-joined.result.now ≡ joining c.args.class.now store.segments store.groups =
    c.as_slice-joined.ensures.value ∙ c.in_ok-marks.ensures in
    c.from_parts.ensures
    ∙ stays_as_it_is c.args.class.now m c.as_slice-joined.result.now is c.args.name.now
    (ap (λ n. some_of c.as_slice-joined.result.now && nat_lt n greatest_index) (sym c.group_count-groups.ensures)
    ∙ sym c.gets_part.ensures ∙ c.if-not-gets_part.true)
    ∙ ap (grouped c.args.class.now c.args.name.now) (sym c.into_parts-store.ensures.parts)
