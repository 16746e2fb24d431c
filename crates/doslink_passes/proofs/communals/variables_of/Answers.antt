use Rattle.std.proofs.Common.{IsErr, Ok, map, ap, inl, inr, subst, sym, ◌∙◌}
use Rattle.omf_communal.specs.Deciding.{variables}
use Rattle.doslink_stock.specs.Seen.{handed_held}
use Rattle.doslink_passes.specs.Communals.{declared_by}
use Rattle.doslink_passes.specs.Request.{names_of}
use Rattle.doslink_passes.specs.inside.Declaring.{declared_said}
use Rattle.doslink_passes.proofs.Lists.{map-map}
use Rattle.doslink_passes.proofs.Refused.{refused-exit, steps-weaker}
use Rattle.doslink_passes.proofs.communals.variables_of.Goals as goal

pub returns : goal.returns
returns g c =
    let handed = c.args.request.now.handed.now in
    let declared = c.in_ok-declared.declared.items in
    steps-weaker c.agreed_variables.result (λ v is. record {
      declared = map declared_said declared;
      are_declared = sym (map-map handed_held declared_by handed) ∙ sym c.in_ok-declared.ensures
          ∙ map-map declared_said Ok declared;
      agreed = ap (variables (names_of c.args.request.now.job.now.ignore_case))
          (sym (ap (map declared_said) c.deref.ensures.value))
          ∙ ap (λ n. variables n (map declared_said c.deref.result.now)) (sym c.names.ensures) ∙ is;
    })
    (λ clash. inr (
      map declared_said declared,
      sym (map-map handed_held declared_by handed) ∙ sym c.in_ok-declared.ensures ∙ map-map declared_said Ok declared,
      subst (λ n. IsErr (variables n (map declared_said declared))) c.names.ensures
          (subst (λ ds. IsErr (variables c.names.result (map declared_said ds))) c.deref.ensures.value clash),
    ))
    c.agreed_variables.ensures

pub returns-in_err-declared : goal.returns-in_err-declared
returns-in_err-declared g c =
    refused-exit _ c.from_residual.result _ c.from_residual.ensures.1 inl c.in_err-declared.ensures
