use Rattle.std.proofs.Common.{take}
use Rattle.std.specs.List.{fold}
use Rattle.omf_search.specs.Taken.{IsMet}
use Rattle.omf_search.specs.Results.{bytes_of}
use Rattle.omf_search.specs.Wanted.{Met, ask}
use Rattle.omf_search.proofs.meeting.Meeting.ask_each.Given as goal

abbrev pub invariant-loop-name : goal.invariant-loop-name
invariant-loop-name g l = (s : Met) → IsMet l.fn.names s l.initial.self
    → IsMet l.fn.names (fold (ask l.fn.names) s (bytes_of (take l.name-index l.these))) l.self
