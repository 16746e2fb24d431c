use Rattle.std.proofs.Common.{◌≡◌, ◌++◌, ◌∷◌, [], ◌<◌, length, map, rules}
use Rattle.std.proofs.lemmas.Result.{err_from_is_err_and}
use Rattle.std.proofs.lemmas.List.{map_push}
use Rattle.omf_codec.proofs.Lists.{so_far_more}
use Rattle.omf_wide.specs.Communals.{plain_communal}
use Rattle.omf_wide.specs.inside.Communals.{communal}
use Rattle.omf_extended.proofs.Chains.{known_more, chain_done, chain_ended, chain_err, no_bytes}
use Rattle.omf_extended.proofs.communals.read_chain.Goals as goal

pub returns-in_err-communal : goal.returns-in_err-communal
returns-in_err-communal g c =
    let p = err_from_is_err_and c.from_residual.result c.from_residual.ensures.1 in
    let some : 0 < length c.loop-alloc.rest.now = search rules in
    rw (p.1, p.2)
    (chain_err g.row.A.Denot c.args.bytes.now (map plain_communal c.loop-alloc.communals.items) c.loop-alloc.rest.now
    c.loop-alloc.invariant.1 c.loop-alloc.invariant.0 _ some c.in_err-communal.ensures)

pub returns-then-is_other : goal.returns-then-is_other
returns-then-is_other g c =
    let x = c.in_ok-communal.communal in
    let xs = c.loop-alloc.communals.items in
    let e : map plain_communal c.push.new.self.items ≡ map plain_communal xs ++ plain_communal x ∷ [] =
    rw c.in_ok-push.ensures.items (map_push plain_communal c.loop-alloc.communals.items x) in
    rw e
    (chain_ended g.row.A.Denot c.args.bytes.now (map plain_communal c.loop-alloc.communals.items) c.loop-alloc.rest.now
    c.loop-alloc.invariant.1 c.loop-alloc.invariant.0 (plain_communal x) c.in_ok-communal.after.now
    c.all.result.0.now c.all.result.1.now (search rules) c.in_ok-communal.ensures c.all.ensures)

pub loop-alloc-preserved : goal.loop-alloc-preserved
loop-alloc-preserved g c =
    let x = c.in_ok-communal.communal in
    let xs = c.loop-alloc.communals.items in
    let e : map plain_communal c.push.new.self.items ≡ map plain_communal xs ++ plain_communal x ∷ [] =
    rw c.in_ok-push.ensures.items (map_push plain_communal c.loop-alloc.communals.items x) in
    rw e (
      known_more (map plain_communal xs) (plain_communal x) c.loop-alloc.invariant.0 (search rules),
      so_far_more communal c.args.bytes.now (map plain_communal c.loop-alloc.communals.items) c.loop-alloc.rest.now
          (plain_communal x) c.in_ok-communal.after.now c.loop-alloc.invariant.1 c.in_ok-communal.ensures,
    )

pub returns : goal.returns
returns g c =
    let none : length c.loop-alloc.rest.now ≡ 0 = search rules in
    chain_done g.row.A.Denot c.args.bytes.now (map plain_communal c.loop-alloc.communals.items) c.loop-alloc.rest.now
    c.loop-alloc.invariant.1 c.loop-alloc.invariant.0 (no_bytes c.loop-alloc.rest.now none)
