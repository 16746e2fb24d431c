use Rattle.std.proofs.Common.{IfSome}
use Rattle.byte_places.specs.inside.Anchors.{IsAnchor}
use Rattle.byte_places.proofs.index.Index.rarest.Given as goal

abbrev pub invariant-loop-at : goal.invariant-loop-at
invariant-loop-at g l = IfSome l.rarest (λ a. IsAnchor l.fn.pattern a.at a.word)
