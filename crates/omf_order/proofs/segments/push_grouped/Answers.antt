use Rattle.std.proofs.Common.{◌∙◌, ◌++◌, ap, arith, sym, append-nil, append_assoc}
use Rattle.std.proofs.lemmas.List.{take_all}
use Rattle.std.specs.List.{flat_map}
use Rattle.omf_module.specs.Seen.{group_seen}
use Rattle.omf_module.specs.Sound.{GroupFits}
use Rattle.omf_place.proofs.SiteLists.{All-at_get}
use Rattle.omf_order.specs.Segments.{members}
use Rattle.omf_order.specs.inside.Held.{segments_view}
use Rattle.omf_order.proofs.Lists.{flat_map_one, members_below}
use Rattle.omf_order.proofs.segments.push_grouped.Goals as goal

pub push_group-requires : goal.push_group-requires
push_group-requires g c =
    let m = c.args.from.now in
    members_below m.segments m.groups m.externals c.group-group.result.members.now
    (All-at_get (GroupFits m.segments m.groups m.externals) m.groups c.loop-index.index
    (group_seen c.group-group.result) c.promises.ensures.groups c.group-group.ensures).members

pub loop-index-preserved : goal.loop-index-preserved
loop-index-preserved g c =
    let m = c.args.from.now in
    let front = segments_view c.args.grouped.now.items in
    c.in_ok-push_group.ensures
    ∙ ap (λ ys. ys ++ members m.segments (group_seen c.group-group.result)) c.loop-index.invariant
    ∙ append_assoc front _ _
    ∙ ap (λ ys. front ++ ys)
    (sym
    (flat_map_one (members m.segments) m.groups c.loop-index.index (group_seen c.group-group.result)
    c.group-group.ensures))

pub loop-index-init : goal.loop-index-init
loop-index-init g c = sym (append-nil (segments_view c.args.grouped.now.items))

pub returns : goal.returns
returns g c =
    let m = c.args.from.now in
    c.loop-index.invariant
    ∙ ap (λ gs. segments_view c.args.grouped.now.items ++ flat_map (members m.segments) gs)
    (take_all c.loop-index.index m.groups (omega arith))
