use Rattle.std.proofs.Common.{◌≡◌, false, nat_lt, length, refl, sym, ◌∙◌}
use Rattle.std.proofs.lemmas.Result.{err_from_is_err_and}
use Rattle.omf_module.specs.inside.Running.{step_record}
use Rattle.omf_module.proofs.builder.ModuleBuilder.add_segment.Goals as goal

pub returns-in_err-push_segment-clause-gives : goal.returns-in_err-push_segment-clause-gives
returns-in_err-push_segment-clause-gives g c =
    let p = err_from_is_err_and c.from_residual.result c.from_residual.ensures.1 in
    rw (p.1, p.2) tt

pub returns-clause-gives : goal.returns-clause-gives
unfolding step_record
returns-clause-gives g c =
    let name : nat_lt (length c.args.self.now.store.names) c.args.definition.name ≡ false =
    rw c.name_count-names.ensures at (sym c.is_beyond.ensures ∙ c.if-is_beyond.false) in
    let class_name : nat_lt (length c.args.self.now.store.names) c.args.definition.class ≡ false =
    rw c.name_count-names.ensures at (sym c.is_beyond-else-is_beyond.ensures ∙ c.if-is_beyond-2.false) in
    rw (name, class_name, c.in_ok-push_segment.ensures) refl
