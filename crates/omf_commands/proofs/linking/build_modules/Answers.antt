use Rattle.std.proofs.Common.{Ok, Err, refl, subst, IfSome}
use Rattle.omf_place.specs.inside.Placing.{IsOnlyLayout, IsFirstFault}
use Rattle.omf_place.specs.Said.{said}
use Rattle.omf_image.specs.Building.{Builds}
use Rattle.omf_commands.proofs.LinkSteps.{build_refused, place_refused}
use Rattle.omf_commands.proofs.linking.build_modules.Goals as goal

pub returns-in-Err : goal.returns-in-Err
returns-in-Err g c =
    let fault =
    subst (λ ms. IfSome (said c.in-Err.fault) (IsFirstFault c.args.names ms)) c.as_slice-all.ensures.value
    c.in-Err.ensures.fault in
    rw c.place_fault.ensures (place_refused c.args.names c.args.modules.items c.in-Err.fault fault)

pub returns-in-Err-build : goal.returns-in-Err-build
returns-in-Err-build g c =
    let only =
    subst (λ ms. IsOnlyLayout c.args.names ms c.in-Ok.layout) c.as_slice-all.ensures.value c.in-Ok.ensures.layout in
    let builds =
    subst (λ ms. Builds c.in-Ok.layout ms (Err c.in-Err-build.fault)) c.as_slice-all.ensures.value
    c.in-Err-build.ensures in
    rw c.fix_fault.ensures
    (build_refused _ c.args.names c.args.modules.items c.in-Ok.layout c.in-Err-build.fault only builds)

pub returns : goal.returns
returns g c =
    let only =
    subst (λ ms. IsOnlyLayout c.args.names ms c.in-Ok.layout) c.as_slice-all.ensures.value c.in-Ok.ensures.layout in
    let builds =
    subst (λ ms. Builds c.in-Ok.layout ms (Ok c.in-Ok-build.program)) c.as_slice-all.ensures.value
    c.in-Ok-build.ensures in
    record { read = refl; linked = record { is_layout = only; sound = builds.0; program = builds.1 } }
