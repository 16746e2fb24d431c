use Rattle.std.proofs.Common.{◌≡◌, ◌++◌, ◌∷◌, [], ◌<◌, length, map, rules}
use Rattle.std.proofs.lemmas.Result.{err_from_is_err_and}
use Rattle.std.proofs.lemmas.List.{map_push}
use Rattle.omf_codec.proofs.Lists.{so_far_more, list_err}
use Rattle.omf_codec.proofs.whole.ToEndField.read.Goals as goal

pub returns-in_err-item : goal.returns-in_err-item
returns-in_err-item g c =
    let p = err_from_is_err_and c.from_residual.result c.from_residual.ensures.1 in
    let n = c.args.number in
    let f = g.F.Codec.format n in
    let some : 0 < length c.loop-alloc.rest.now = search rules in
    rw (p.1, p.2)
    (list_err f (λ v. v.items) (g.met.F.Codec.lawful n) (g.met.F.Free.free n) c.args.bytes.now
    (map f.view c.loop-alloc.items.items) c.loop-alloc.rest.now _ some c.loop-alloc.invariant c.in_err-item.ensures)

pub loop-alloc-preserved : goal.loop-alloc-preserved
loop-alloc-preserved g c =
    let f = g.F.Codec.format c.args.number in
    let e : map f.view c.push.new.self.items ≡ map f.view c.loop-alloc.items.items ++ f.view c.in_ok-item.item ∷ [] =
    rw c.in_ok-push.ensures.items (map_push f.view c.loop-alloc.items.items c.in_ok-item.item) in
    rw e
    (so_far_more f c.args.bytes.now (map f.view c.loop-alloc.items.items) c.loop-alloc.rest.now
    (f.view c.in_ok-item.item) c.in_ok-item.after.now c.loop-alloc.invariant c.in_ok-item.ensures)
