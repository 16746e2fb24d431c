use Rattle.std.proofs.Common.{take}
use Rattle.std.specs.List.{fold}
use Rattle.omf_library.specs.Said.{aliases_said}
use Rattle.omf_search.specs.Taken.{IsMet}
use Rattle.omf_search.specs.Wanted.{Met, add_alias}
use Rattle.omf_search.proofs.meeting.Meeting.add_aliases.Given as goal

abbrev pub invariant-loop-alias : goal.invariant-loop-alias
invariant-loop-alias g l = (s : Met) → IsMet l.fn.names s l.initial.self
    → IsMet l.fn.names (fold (add_alias l.fn.names l.fn.index) s (aliases_said (take l.alias-index l.aliases))) l.self
