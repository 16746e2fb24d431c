use Rattle.std.proofs.Common.{refl, subst, sym, ◌∙◌}
use Rattle.doslink_files.specs.Files.{IsModulesPart}
use Rattle.doslink_files.proofs.taking.take_at.Goals as goal

pub returns-in-Regular : goal.returns-in-Regular
returns-in-Regular g c = (
  sym c.contains.ensures ∙ c.if-contains.true,
  c.args.path.now,
  λ bytes part. (refl, subst (λ o. IsModulesPart o bytes) (sym (c.in-Ok.ensures.holds c.in-Regular.is)) part),
)
