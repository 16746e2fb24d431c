use Rattle.std.proofs.Common.{◌∙◌, ap, arith, refl, sym}
use Rattle.std.proofs.lemmas.List.{take_all}
use Rattle.std.specs.List.{list_any}
use Rattle.omf_module.specs.Seen.{group_seen}
use Rattle.omf_module.specs.Sound.{GroupFits}
use Rattle.omf_place.proofs.SiteLists.{All-at_get}
use Rattle.omf_communal.specs.Bss.{is_in_group}
use Rattle.omf_communal.proofs.Searching.{any_at, any_kept, members_below}
use Rattle.omf_communal.proofs.bss.has_bss.Goals as goal

pub is_in_group-requires : goal.is_in_group-requires
is_in_group-requires g c =
    let m = c.args.from.now in
    members_below m.segments m.groups m.externals c.group-group.result.members.now
    (All-at_get (GroupFits m.segments m.groups m.externals) m.groups c.loop-index.index
    (group_seen c.group-group.result) c.promises.ensures.groups c.group-group.ensures).members

pub returns-then-is_in_group : goal.returns-then-is_in_group
returns-then-is_in_group g c =
    sym (any_at (is_in_group c.args.from.now.segments) c.args.from.now.groups c.loop-index.index _ c.group-group.ensures
    (sym c.is_in_group.ensures ∙ c.if-is_in_group.true))

pub loop-index-preserved : goal.loop-index-preserved
loop-index-preserved g c =
    any_kept (is_in_group c.args.from.now.segments) c.args.from.now.groups c.loop-index.index _ c.group-group.ensures
    c.loop-index.invariant (sym c.is_in_group.ensures ∙ c.if-is_in_group.false)

pub loop-index-init : goal.loop-index-init
loop-index-init g c = refl

pub returns : goal.returns
returns g c =
    let m = c.args.from.now in
    sym
    (ap (list_any (is_in_group m.segments)) (sym (take_all c.loop-index.index m.groups (omega arith)))
    ∙ c.loop-index.invariant)
