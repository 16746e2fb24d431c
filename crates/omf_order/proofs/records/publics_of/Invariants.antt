use Rattle.std.proofs.Common.{◌≡◌, map, take}
use Rattle.omf_record.specs.View.{public_view}
use Rattle.omf_order.specs.Records.{public_of}
use Rattle.omf_order.specs.inside.Held.{names_view}
use Rattle.omf_order.proofs.records.publics_of.Given as goal

abbrev pub invariant-loop-name : goal.invariant-loop-name
invariant-loop-name g l = map public_view l.publics.items ≡ map public_of (names_view (take l.name-index l.names))
