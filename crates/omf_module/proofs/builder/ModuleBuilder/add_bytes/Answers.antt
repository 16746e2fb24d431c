use Rattle.std.proofs.Common.{◌≡◌, length, refl, sym, ◌∙◌, arith}
use Rattle.std.proofs.lemmas.Result.{err_from_is_err_and}
use Rattle.omf_record.specs.Expansion.{capped}
use Rattle.omf_module.specs.inside.Running.{step_record}
use Rattle.omf_module.proofs.builder.ModuleBuilder.add_bytes.Goals as goal

pub returns-in-Some : goal.returns-in-Some
unfolding step_record
returns-in-Some g c =
    let n = length c.args.bytes.now in
    let whole : length c.args.bytes.now ≡ capped (length c.args.bytes.now) = omega (arith, c.requires) in
    rw (← (c.in-Some.ensures.exact n whole)) refl

pub push_bytes-requires : goal.push_bytes-requires
push_bytes-requires g c = omega (arith, c.requires)

pub returns-in_err-push_bytes : goal.returns-in_err-push_bytes
returns-in_err-push_bytes g c =
    let p = err_from_is_err_and c.from_residual.result c.from_residual.ensures.1 in
    rw (p.1, p.2) tt

pub returns : goal.returns
unfolding step_record
returns g c =
    let n = length c.args.bytes.now in
    let whole : length c.args.bytes.now ≡ capped (length c.args.bytes.now) = omega (arith, c.requires) in
    let none = sym (c.data_fault.ensures.exact n whole) ∙ c.in_default.is in
    rw (none, c.in_ok-push_bytes.ensures, c.from_zero.ensures) refl
