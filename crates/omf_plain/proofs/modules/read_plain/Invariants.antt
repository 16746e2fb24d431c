use Rattle.std.proofs.Common.{◌≡◌, ◌≤◌, ◌-◌, List, length}
use Rattle.omf_alias.specs.Said.{renaming_said}
use Rattle.omf_plain.specs.Modules.{GivenRecord, Stand, behind, AreOpen, Known}
use Rattle.omf_plain.specs.inside.Walking.{Has}
use Rattle.omf_plain.proofs.modules.read_plain.Given as goal

-- records are taken that stand before the place, none of which is MODEND
abbrev pub invariant-loop-reading : goal.invariant-loop-reading
invariant-loop-reading g l =
    (gs : List GivenRecord) × (k : Known)
    × Has (record {
      keep_debug = l.keep_debug;
      renaming = renaming_said l.renaming;
      comdats = l.comdats;
    }) gs k l.reading
    × Stand l.bytes 0 gs × AreOpen gs × (l.place ≡ behind 0 gs) × (l.place ≤ length l.bytes)

abbrev pub decreases-loop-reading : goal.decreases-loop-reading
decreases-loop-reading g l = length l.bytes - l.place
