use Rattle.std.proofs.Common.{◌++◌, ◌∷◌, [], ap, ◌∙◌}
use Rattle.omf_module.specs.Module.{Group}
use Rattle.omf_module.specs.inside.Store.{Kept, IsConsistent}
use Rattle.omf_module.proofs.Stored.{bytes_stay, group_kept, group_in, last_piece, last_is_in}
use Rattle.omf_module.proofs.store.Store.push_members.Goals as goal

pub invariant_of-self : goal.invariant_of-self
unfolding IsConsistent
invariant_of-self g c =
    let b = c.keep.ensures.kept in (
      rw b.1
          (bytes_stay c.self.inside.bytes.items b.0 c.self.inside.places.items _ c.self.invariant.0).1,
      c.self.invariant.1,
    )

pub invariant_of-self-in_err-push : goal.invariant_of-self-in_err-push
unfolding IsConsistent
invariant_of-self-in_err-push g c =
    let b = c.keep.ensures.kept in (
      rw (c.in_err-push.ensures.items, b.1)
          (bytes_stay c.self.inside.bytes.items b.0 c.self.inside.places.items _ c.self.invariant.0).1,
      c.self.invariant.1,
    )

pub invariant_of-self-2 : goal.invariant_of-self-2
unfolding IsConsistent
invariant_of-self-2 g c =
    let bytes = c.self.inside.bytes.items in
    let stay = bytes_stay bytes c.args.name.now c.self.inside.places.items _ c.self.invariant.0 in
    rw (c.in_ok-push.ensures.items, c.in_ok-name.ensures.ok.0, c.in_ok-name.ensures.ok.1)
    ((group_in _ _ _ stay.1 _ (last_is_in bytes c.args.name.now), c.self.invariant.1))

pub returns : goal.returns
unfolding IsConsistent
returns g c =
    let bytes = c.self.inside.bytes.items in
    let stay = bytes_stay bytes c.args.name.now c.self.inside.places.items _ c.self.invariant.0 in
    let said : Group = record { name = c.args.name.now; members = c.args.members.items } in
    rw (c.in_ok-push.ensures.items, c.in_ok-name.ensures.ok.0, c.in_ok-name.ensures.ok.1)
    (group_kept _ _ _ stay.1 _ (ap (λ n. record { name = n; members = c.args.members.items }) (last_piece bytes c.args.name.now))
    ∙ ap (λ (k : Kept). record k { groups = k.groups ++ said ∷ [] }) (stay.0 ∙ c.self.view_is))
