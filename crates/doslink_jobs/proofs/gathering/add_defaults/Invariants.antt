use Rattle.std.proofs.Common.{◌≡◌, ℕ, List, map}
use Rattle.omf_place.specs.declared.names.Names.{Names}
use Rattle.doslink_words.specs.Tokens.{texts}
use Rattle.doslink_jobs.specs.inside.Absent.{AreAbsentBehind, library_said}
use Rattle.doslink_jobs.specs.inside.Gathering.{AddsRounds, Holds}
use Rattle.doslink_jobs.proofs.gathering.add_defaults.Given as goal

abbrev pub invariant-rounds : goal.invariant-rounds
invariant-rounds g l = record {
  files : (names : Names) (before : List (List (List ℕ))) → Holds names before l.initial.gathered
      → AddsRounds (g.W.World.bytes l.fn.world) (texts l.fn.how.folders.now) (texts l.fn.how.left_out.now) names
      before l.gathered;
  absent : (names : Names) (before : List (List (List ℕ))) → Holds names before l.initial.gathered
      → AreAbsentBehind (g.W.World.bytes l.fn.world) (texts l.fn.how.folders.now) (texts l.fn.how.left_out.now)
      names before l.gathered
      (map library_said l.initial.absent.items) (map library_said l.absent.items);
  kept : l.lines.items ≡ l.initial.lines.items;
}
