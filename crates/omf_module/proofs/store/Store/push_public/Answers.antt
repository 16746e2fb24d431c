use Rattle.std.proofs.Common.{◌++◌, ◌∷◌, [], ap, ◌∙◌}
use Rattle.omf_module.specs.inside.Store.{Kept, IsConsistent}
use Rattle.omf_module.proofs.Stored.{bytes_stay, public_kept, public_in}
use Rattle.omf_module.proofs.store.Store.push_public.Goals as goal

pub invariant_of-self : goal.invariant_of-self
unfolding IsConsistent
invariant_of-self g c =
    let b = c.keep.ensures.kept in (
      rw b.1
          (bytes_stay c.self.inside.bytes.items b.0 c.self.inside.places.items _ c.self.invariant.0).1,
      c.self.invariant.1,
    )

pub invariant_of-self-in_err-push : goal.invariant_of-self-in_err-push
unfolding IsConsistent
invariant_of-self-in_err-push g c =
    let b = c.keep.ensures.kept in (
      rw (c.in_err-push.ensures.items, b.1)
          (bytes_stay c.self.inside.bytes.items b.0 c.self.inside.places.items _ c.self.invariant.0).1,
      c.self.invariant.1,
    )

pub invariant_of-self-2 : goal.invariant_of-self-2
unfolding IsConsistent
invariant_of-self-2 g c =
    rw (c.in_ok-push.ensures.items, c.in_ok-name.ensures.ok.0, c.in_ok-name.ensures.ok.1)
    ((public_in _ _ _ c.self.invariant.0 c.args.name.now c.args.base c.args.offset c.args.local, c.self.invariant.1))

pub returns : goal.returns
unfolding IsConsistent
returns g c =
    rw (c.in_ok-push.ensures.items, c.in_ok-name.ensures.ok.0, c.in_ok-name.ensures.ok.1)
    (public_kept _ _ _ c.self.invariant.0 c.args.name.now c.args.base c.args.offset c.args.local
    ∙ ap (λ (k : Kept). record k {
      publics =
          k.publics
          ++ record { name = c.args.name.now; base = c.args.base; offset = c.args.offset; local = c.args.local } ∷ [];
    }) c.self.view_is)
