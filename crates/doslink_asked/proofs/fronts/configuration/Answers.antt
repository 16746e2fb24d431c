use Rattle.std.proofs.Common.{inl}
use Rattle.doslink_asked.proofs.fronts.configuration.Goals as goal

pub returns-then-is_nothing_at : goal.returns-then-is_nothing_at
returns-then-is_nothing_at g c = inl (c.is_nothing_at.ensures c.if-is_nothing_at.true, c.new.ensures.bytes)
