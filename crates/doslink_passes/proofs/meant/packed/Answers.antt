use Rattle.std.proofs.Common.{true, false, refl, subst, sym}
use Rattle.std.proofs.lemmas.Result.{IfOk-weaker}
use Rattle.doslink_passes.specs.Meant.{ArePacked, far_data}
use Rattle.doslink_passes.proofs.MeantModules.{fit-of}
use Rattle.doslink_passes.proofs.meant.packed.Goals as goal

pub returns-then-branch : goal.returns-then-branch
returns-then-branch g c =
    let modules = c.args.modules.items in
    IfOk-weaker c.all_grouped.result _ _
    (λ v is. subst (λ p. ArePacked p modules v.items) (sym c.if-packs.true)
    (true, fit-of far_data _ _ _ _ c.in_ok-class_fits.ensures c.deref.ensures.value c.if-branch.true, is))
    c.all_grouped.ensures

pub returns-else-packs : goal.returns-else-packs
returns-else-packs g c =
    let modules = c.args.modules.items in
    elim c.else-packs.branch [
      | goal.else-packs-via-then-packs+in_ok-class_fits+else-branch w ↦
          subst (λ p. ArePacked p modules modules) (sym w.if-packs.true)
          (false, fit-of far_data _ _ _ _ w.in_ok-class_fits.ensures w.deref.ensures.value w.if-branch.false, refl)
      | goal.else-packs-via-else-packs w ↦ subst (λ p. ArePacked p modules modules) (sym w.if-packs.false) refl
    ]
