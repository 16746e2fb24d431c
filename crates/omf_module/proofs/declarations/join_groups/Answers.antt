use Rattle.std.proofs.Common.{ap, sym, ◌∙◌, arith}
use Rattle.std.proofs.lemmas.List.{append-nil, take_all}
use Rattle.omf_module.specs.Joined.{part_behind}
use Rattle.omf_module.specs.Seen.{group_seen}
use Rattle.omf_module.specs.Sound.{GroupFits}
use Rattle.omf_module.specs.inside.Store.{Kept}
use Rattle.omf_module.proofs.Pushing.{mapped_more, fits_at}
use Rattle.omf_module.proofs.JoinedSound.{room_members}
use Rattle.omf_module.proofs.declarations.join_groups.Goals as goal

pub loop-index-init : goal.loop-index-init
loop-index-init g c =
    let old : Kept = c.args.store.now in
    ap (λ xs. record old { groups = xs }) (sym (append-nil old.groups))

pub members_behind-requires : goal.members_behind-requires
members_behind-requires g c =
    let m = c.args.more.now in
    let fits =
    fits_at (GroupFits m.segments m.groups m.externals) m.groups c.loop-index.index (group_seen c.group-group.result)
    c.promises.ensures.groups c.group-group.ensures in
    room_members c.args.segments 0 m.segments m.groups m.externals c.requires _ fits.members

pub loop-index-preserved : goal.loop-index-preserved
loop-index-preserved g c =
    let old : Kept = c.args.store.now in
    let more =
    mapped_more (part_behind c.args.segments) old.groups c.args.more.now.groups c.loop-index.index
    (group_seen c.group-group.result) c.group-group.ensures in
    let pushed = rw (c.loop-index.invariant, c.in_ok-members.ensures) at c.in_ok-push_members.ensures in
    pushed ∙ ap (λ xs. record old { groups = xs }) more

pub returns : goal.returns
returns g c =
    let all = take_all c.loop-index.index c.args.more.now.groups (omega arith) in
    rw all at c.loop-index.invariant
