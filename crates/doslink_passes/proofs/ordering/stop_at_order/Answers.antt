use Rattle.doslink_passes.proofs.Refused.{OnInput-holds}
use Rattle.doslink_passes.proofs.ordering.stop_at_order.Goals as goal

pub returns-in-TooManySegments : goal.returns-in-TooManySegments
returns-in-TooManySegments g c = OnInput-holds c.stop_after.result (λ same. (cc (c.in-TooManySegments.is)))

pub returns-in-DataInBss : goal.returns-in-DataInBss
returns-in-DataInBss g c = OnInput-holds c.stop_after-in-DataInBss.result (λ same. (cc (c.in-DataInBss.is)))
