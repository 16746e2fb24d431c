use Rattle.std.proofs.Common.{inl, inr}
use Rattle.doslink_jobs.proofs.Refused.{halt-exit, halts-weaker}
use Rattle.doslink_jobs.proofs.places.check_map.Goals as goal

pub returns-in_err-check_place : goal.returns-in_err-check_place
returns-in_err-check_place g c =
    halt-exit _ c.from_residual.result _ c.from_residual.ensures.1 (λ none. none) (λ over. inl over)
    c.in_err-check_place.ensures

pub returns : goal.returns
returns g c =
    halts-weaker c.check_apart.result (λ done apart. apart) (λ none. none) (λ one. inr one) c.check_apart.ensures
