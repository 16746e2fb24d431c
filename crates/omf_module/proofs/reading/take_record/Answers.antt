use Prim.{search}
use Rattle.std.proofs.Common.{◌≡◌, Result, Ok, Err, rules, sym}
use Rattle.std.specs.Prelude.{MatchResult}
use Rattle.omf_record.specs.View.{view}
use Rattle.omf_module.specs.declared.builder.AddFault.{AddFault}
use Rattle.omf_module.specs.declared.fault.CheckFault.{CheckFault}
use Rattle.omf_module.specs.inside.Building.{Gives, state}
use Rattle.omf_module.proofs.reading.take_record.Goals as goal

-- what a call gave that went well
given : {X Y : Type 0} (new : Y) (r : Result X AddFault) (step : Result Y CheckFault) (P : X → Type 0)
    (Q : AddFault → Type 0) → MatchResult r P Q → ((e : AddFault) → Q e → ⊥) → Gives (λ _. new) r step → step ≡ Ok new
given new (Ok x) step P Q h never l = l
given new (Err e) step P Q h never l = absurd (never e h)

pub returns : goal.returns
returns g c = (
  view c.in_ok-record.record,
  search rules,
  sym c.is_end.ensures,
  given (state c.take.new.self) c.take.result _ _ _ c.in_ok-map_err.ensures.cases (λ e q. q) c.take.ensures.gives,
)
