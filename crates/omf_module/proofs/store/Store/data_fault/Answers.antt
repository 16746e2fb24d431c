use Rattle.std.proofs.Common.{◌≡◌, Some, refl, sym, ap, ◌∙◌}
use Rattle.omf_module.specs.Before.{entry}
use Rattle.omf_module.specs.inside.Store.{Kept, segment}
use Rattle.omf_module.proofs.Lists.{entry-map}
use Rattle.omf_module.proofs.store.Store.data_fault.Goals as goal

pub returns-in-Some-clause-exact : goal.returns-in-Some-clause-exact
returns-in-Some-clause-exact g c = λ n k.
    let kept_one : entry c.self.inside.segments.items c.args.index ≡ Some c.in-Some.segment.now =
    rw c.deref.ensures.value at (sym c.in-Some.ensures) in
    let at_index : entry c.args.self.now.segments c.args.index
    ≡ Some (segment c.self.inside.bytes.items c.in-Some.segment.now) =
    ap (λ (k : Kept). entry k.segments c.args.index) (sym c.self.view_is)
    ∙ entry-map (segment c.self.inside.bytes.items) c.self.inside.segments.items c.args.index c.in-Some.segment.now
    kept_one in
    rw (
      c.or.ensures,
      c.when.ensures,
      c.when-in-Some.ensures,
      c.is_absolute-absolute.ensures,
      c.is_above-outside.ensures.exact n
          k,
      at_index,
    ) refl
