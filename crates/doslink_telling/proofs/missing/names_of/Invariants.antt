use Rattle.std.proofs.Common.{◌≡◌, map, take}
use Rattle.omf_search.specs.Results.{bytes_of}
use Rattle.doslink_telling.proofs.missing.names_of.Given as goal

abbrev pub invariant-loop-each : goal.invariant-loop-each
invariant-loop-each g l = bytes_of l.names.items ≡ map (λ w. w.name.now) (take l.each-index l.fn.missing)
