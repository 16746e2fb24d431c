use Rattle.std.proofs.Common.{length, map}
use Rattle.omf_communal.specs.Reading.{plain_communal}
use Rattle.omf_communal.proofs.Entering.{EntriesLeft}
use Rattle.omf_communal.proofs.reading.push_entries.Given as goal

abbrev pub invariant-loop-rest : goal.invariant-loop-rest
invariant-loop-rest g l =
    EntriesLeft l.place l.body l.rest (map plain_communal l.initial.told.items) (map plain_communal l.told.items)

abbrev pub decreases-loop-rest : goal.decreases-loop-rest
decreases-loop-rest g l = length l.rest
