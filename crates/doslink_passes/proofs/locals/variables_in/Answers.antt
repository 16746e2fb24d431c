use Rattle.std.proofs.Common.{◌≡◌, [], ◌∷◌, IsErr, map, ap, sym, subst, ◌∙◌}
use Rattle.omf_communal.specs.Deciding.{variables}
use Rattle.omf_communal.specs.Locals.{local_names_of}
use Rattle.omf_communal.specs.Modules.{Module, bytes_of}
use Rattle.omf_communal.specs.Reading.{plain_communal}
use Rattle.doslink_passes.specs.inside.Declaring.{declared_said}
use Rattle.doslink_passes.proofs.Declaring.{said-alone}
use Rattle.doslink_passes.proofs.Refused.{steps-weaker}
use Rattle.doslink_passes.proofs.locals.variables_in.Goals as goal

pub returns : goal.returns
returns g c =
    let cs = map plain_communal c.args.communals.items in
    let publics : bytes_of c.as_slice.result.now ≡ local_names_of c.args.module.now =
    ap bytes_of c.as_slice.ensures.value ∙ c.in_ok-publics.ensures in
    let alone : map declared_said c.deref.result.now
    ≡ (let m : Module = record { communals = cs; offered = local_names_of c.args.module.now } in m) ∷ [] =
    ap (map declared_said) c.deref.ensures.value
    ∙ said-alone _ _ _ c.in_ok-push.ensures.items c.new-declared.ensures.items
    ∙ ap (λ ns. (let m : Module = record { communals = cs; offered = ns } in m) ∷ []) publics in
    steps-weaker c.agreed_variables.result (λ v agreed. ap (variables c.args.room.now.names) (sym alone) ∙ agreed)
    (λ clash. subst (λ ms. IsErr (variables c.args.room.now.names ms)) alone clash) c.agreed_variables.ensures
