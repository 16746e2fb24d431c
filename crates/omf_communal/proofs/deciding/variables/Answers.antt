use Rattle.std.proofs.Common.{◌∙◌, [], map, sym, ap, arith}
use Rattle.std.proofs.lemmas.Result.{err_from_is_err_and}
use Rattle.omf_communal.specs.Deciding.{met, variable_said}
use Rattle.omf_communal.specs.inside.Met.{declared_said}
use Rattle.omf_communal.proofs.Meeting.{clash-through, met_fault, met_last, met_more}
use Rattle.omf_communal.proofs.deciding.variables.Goals as goal

pub loop-declared-preserved : goal.loop-declared-preserved
loop-declared-preserved g c = record {
  places = c.in_ok-meet.ensures.kept;
  all =
      met_more c.args.names (map variable_said c.loop-declared.met.variables.items) _ _ c.loop-declared.declared-index
      c.declared-item.result _ c.loop-declared-test.true c.declared-item.is c.loop-declared.invariant.all
      c.in_ok-meet.ensures.met;
}

pub returns-in_err-meet : goal.returns-in_err-meet
returns-in_err-meet g c =
    let p = err_from_is_err_and c.from_residual-in_err-meet.result c.from_residual-in_err-meet.ensures.1 in
    rw (p.1, p.2)
    (clash-through _ _ _ c.in_err-meet.ensures.met (λ f is.
    sym (ap (λ ds. met c.args.names [] (map declared_said ds)) c.deref-declared-items.ensures.value
    ∙ ap (met c.args.names []) c.in_ok-wanted.ensures)
    ∙ met_fault c.args.names (map variable_said c.loop-declared.met.variables.items) _ c.loop-declared.declared-index
    c.declared-item.result _ f c.loop-declared-test.true c.declared-item.is c.loop-declared.invariant.all is))

pub returns : goal.returns
returns g c =
    sym (ap (λ ds. met c.args.names [] (map declared_said ds)) c.deref-declared-items.ensures.value
    ∙ ap (met c.args.names []) c.in_ok-wanted.ensures)
    ∙ met_last c.args.names (map variable_said c.loop-declared.met.variables.items) _ c.loop-declared.declared-index _
    (omega arith) c.loop-declared.invariant.all
