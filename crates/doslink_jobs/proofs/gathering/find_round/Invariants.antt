use Rattle.std.proofs.Common.{◌≡◌, All, List, map, take}
use Rattle.clap.specs.Words.{Text}
use Rattle.doslink_files.specs.Files.{contents}
use Rattle.doslink_stock.specs.Files.{Held}
use Rattle.doslink_words.specs.Tokens.{texts}
use Rattle.doslink_jobs.specs.Jobs.{IsDefault}
use Rattle.doslink_jobs.specs.inside.Absent.{AreLookedUp, library_said}
use Rattle.doslink_jobs.specs.inside.Gathering.{AreAsked}
use Rattle.doslink_jobs.proofs.gathering.find_round.Given as goal

abbrev pub invariant-loop-library : goal.invariant-loop-library
invariant-loop-library g l = record {
  files : (left_out : List Text) (modules : List Held) → AreAsked left_out modules l.fn.libraries
      → All (IsDefault (g.W.World.bytes l.fn.world) (texts l.fn.folders) left_out modules) (contents l.round.items);
  absent : AreLookedUp (g.W.World.bytes l.fn.world) (texts l.fn.folders)
      (map library_said (take l.library-index l.fn.libraries)) (contents l.round.items)
      (map library_said l.initial.absent.items) (map library_said l.absent.items);
  kept : l.lines.items ≡ l.initial.lines.items;
}
