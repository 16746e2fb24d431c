use Rattle.std.proofs.Common.{◌≡◌, ◌++◌, drop, map}
use Rattle.omf_match.specs.Told.{span_of}
use Rattle.omf_match.proofs.told.push_spans.Given as goal

abbrev pub invariant-loop-stand : goal.invariant-loop-stand
invariant-loop-stand g l =
    l.spans.items ++ map (span_of l.fn.from) (drop l.stand-index l.fn.stands)
    ≡ l.initial.spans.items ++ map (span_of l.fn.from) l.fn.stands
