use Rattle.std.proofs.Common.{◌∷◌, [], ap}
use Rattle.std.proofs.lemmas.Result.{on_ok_weaker}
use Rattle.omf_module.specs.inside.Store.{Kept, IsConsistent}
use Rattle.omf_module.specs.inside.Running.{add_to_last}
use Rattle.omf_module.proofs.store.Store.push_fixup.Goals as goal

pub invariant_of-self : goal.invariant_of-self
unfolding IsConsistent
invariant_of-self g c =
    let h = c.self.invariant.0 in (
      record {
        names = h.names;
        segments = h.segments;
        groups = h.groups;
        externals = h.externals;
        publics = h.publics;
        data_records = c.fix_last.ensures.inside c.self.inside.bytes.items c.self.inside.places.items h.data_records;
      },
      c.self.invariant.1,
    )

pub returns : goal.returns
unfolding IsConsistent
returns g c =
    on_ok_weaker c.fix_last.result
    (λ h.
    rw (h c.self.inside.bytes.items c.self.inside.places.items)
    (ap (λ (k : Kept). record k { data_records = add_to_last (c.args.fixup ∷ []) k.data_records }) c.self.view_is))
    c.fix_last.ensures.says
