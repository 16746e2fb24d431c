use Rattle.std.proofs.Common.{IfSome, map}
use Rattle.std.specs.List.{Contains}
use Rattle.std.specs.Prelude.{string_bytes}
use Rattle.doslink_files.specs.Files.{IsModulesPart}
use Rattle.doslink_files.specs.inside.Taking.{IsTaken}
use Rattle.doslink_files.proofs.taking.take_first.Given as goal

abbrev pub invariant-loop-path : goal.invariant-loop-path
invariant-loop-path g l = record {
  last : IfSome l.last (IsTaken
      (λ path bytes. Contains (map string_bytes l.fn.paths) path
      × IsModulesPart (g.W.World.bytes l.fn.world path) bytes)
      (g.W.World.holds l.fn.world) l.fn.known);
}
