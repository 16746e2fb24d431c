use Rattle.std.proofs.Common.{◌≡◌, inl, inr, subst, ap, ◌∙◌, map, Ok, Some}
use Rattle.std.specs.List.{list_any}
use Rattle.std.specs.Option.{option_map}
use Rattle.omf_communal.specs.Answers.{communal_module}
use Rattle.omf_communal.specs.Bss.{has_bss}
use Rattle.omf_communal.specs.Deciding.{variable_said}
use Rattle.doslink_passes.specs.Communals.{HaveNoPlace}
use Rattle.doslink_passes.proofs.Refused.{refused-exit, steps-weaker}
use Rattle.doslink_passes.proofs.communals.with_communal.Goals as goal

pub returns-in_err-bytes : goal.returns-in_err-bytes
returns-in_err-bytes g c =
    refused-exit _ c.from_residual.result _ c.from_residual.ensures.1
    (λ none. inl (subst (λ ms. HaveNoPlace ms (map variable_said c.args.variables.now)) c.deref.ensures.value none))
    c.in_err-bytes.ensures

pub returns-in-Some : goal.returns-in-Some
returns-in-Some g c =
    let vs = map variable_said c.args.variables.now in
    let told : communal_module (list_any has_bss c.args.linked.modules.items) vs ≡ Ok (Some c.in-Some.bytes.items) =
    subst (λ ms. communal_module (list_any has_bss ms) vs ≡ Ok (Some c.in-Some.bytes.items)) c.deref.ensures.value
    (c.in_ok-bytes.ensures ∙ ap (λ o. Ok (option_map (λ v. v.items) o)) c.in-Some.is) in
    steps-weaker c.with_behind.result (λ all behind. inr (c.in-Some.bytes.items, told, behind))
    (λ none. inr (c.in-Some.bytes.items, told, none)) c.with_behind.ensures.behind
