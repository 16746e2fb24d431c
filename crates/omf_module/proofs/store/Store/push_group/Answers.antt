use Rattle.std.proofs.Common.{◌≡◌, ◌++◌, ◌∷◌, [], map, ap, ◌∙◌}
use Rattle.omf_module.specs.inside.Entries.{group_of}
use Rattle.omf_module.specs.inside.Store.{Kept, elements, group, IsConsistent}
use Rattle.omf_module.proofs.Stored.{group_kept, group_in}
use Rattle.omf_module.proofs.store.Store.push_group.Goals as goal

pub invariant_of-self : goal.invariant_of-self
invariant_of-self g c = rw c.in_err-push.ensures.items c.self.invariant

pub invariant_of-self-2 : goal.invariant_of-self-2
unfolding IsConsistent
invariant_of-self-2 g c =
    let inside = rw c.deref.ensures.value at c.in_ok-group.ensures.inside c.self.inside.bytes.items in
    rw c.in_ok-push.ensures.items
    ((group_in _ _ _ c.self.invariant.0 c.in_ok-group.group (inside c.self.invariant.0.names), c.self.invariant.1))

pub returns : goal.returns
unfolding IsConsistent
returns g c =
    let says : group c.self.inside.bytes.items c.in_ok-group.group
    ≡ group_of (map (elements c.self.inside.bytes.items) c.self.inside.names.items) c.args.name c.args.components.now =
    rw c.deref.ensures.value at c.in_ok-group.ensures.says c.self.inside.bytes.items in
    rw c.in_ok-push.ensures.items
    (group_kept _ _ _ c.self.invariant.0 c.in_ok-group.group says
    ∙ ap (λ (k : Kept). record k { groups = k.groups ++ group_of k.names c.args.name c.args.components.now ∷ [] })
    c.self.view_is)
