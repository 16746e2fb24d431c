use Rattle.std.proofs.Common.{◌≡◌, [], length, map, ap, sym, subst, IsErr, ◌∙◌}
use Rattle.std.proofs.lemmas.Bool.{eqb-true}
use Rattle.std.proofs.lemmas.List.{nil_from_length}
use Rattle.std.specs.List.{list_any}
use Rattle.omf_communal.specs.Answers.{communal_module}
use Rattle.omf_communal.specs.Bss.{has_bss}
use Rattle.omf_communal.specs.Deciding.{variable_said}
use Rattle.doslink_passes.proofs.Refused.{OnInput-weaker, plan-fault}
use Rattle.doslink_passes.proofs.communals.communal_bytes.Goals as goal

pub returns-then-is_empty : goal.returns-then-is_empty
returns-then-is_empty g c =
    let vs = c.args.variables.now in
    let none : vs ≡ [] = nil_from_length vs (eqb-true (length vs) 0 (sym c.is_empty.ensures ∙ c.if-is_empty.true)) in
    ap (λ l. communal_module (list_any has_bss c.args.modules.now) (map variable_said l)) none

pub returns-in-Err : goal.returns-in-Err
returns-in-Err g c =
    OnInput-weaker c.stop_unplaced.result
    (λ other. subst (λ b. IsErr (communal_module b (map variable_said c.args.variables.now))) c.have_bss-in_bss.ensures
    (plan-fault c.in-Err.fault _ c.in-Err.ensures other))
    c.stop_unplaced.ensures

pub returns-in-Ok : goal.returns-in-Ok
returns-in-Ok g c =
    ap (λ b. communal_module b (map variable_said c.args.variables.now)) (sym c.have_bss-in_bss.ensures) ∙ c.in-Ok.ensures
