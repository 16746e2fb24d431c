use Rattle.std.proofs.Common.{◌≡◌, Some, refl, sym, ap, ◌∙◌}
use Rattle.omf_module.specs.Before.{entry}
use Rattle.omf_module.specs.inside.Store.{Kept, segment}
use Rattle.omf_module.proofs.Lists.{entry-map}
use Rattle.omf_module.proofs.store.Store.component_fault.Goals as goal

pub returns-in-Some : goal.returns-in-Some
returns-in-Some g c =
    let kept_one : entry c.self.inside.segments.items c.args.index ≡ Some c.in-Some.segment.now =
    rw c.deref.ensures.value at (sym c.in-Some.ensures) in
    let at_index : entry c.args.self.now.segments c.args.index
    ≡ Some (segment c.self.inside.bytes.items c.in-Some.segment.now) =
    ap (λ (k : Kept). entry k.segments c.args.index) (sym c.self.view_is)
    ∙ entry-map (segment c.self.inside.bytes.items) c.self.inside.segments.items c.args.index c.in-Some.segment.now
    kept_one in
    rw (c.when.ensures, c.is_absolute.ensures, at_index) refl
