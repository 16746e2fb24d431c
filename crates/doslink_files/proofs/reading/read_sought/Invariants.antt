use Rattle.std.proofs.Common.{All, map, take}
use Rattle.std.specs.List.{Contains}
use Rattle.doslink_files.specs.Files.{sought_name}
use Rattle.doslink_files.specs.inside.Reading.{IsReading}
use Rattle.doslink_files.proofs.reading.read_sought.Given as goal

abbrev pub invariant-loop-one : goal.invariant-loop-one
invariant-loop-one g l = record {
  files : IsReading (g.W.World.bytes l.fn.world) (g.W.World.holds l.fn.world)
      (map (λ f. f.now) l.fn.folders.objects.now) (map (λ f. f.now) l.fn.folders.libraries.now)
      (take l.one-index l.fn.sought) l.reading;
  unread : All (λ u. Contains (map sought_name l.fn.sought) u.name.now) l.reading.unread.items;
}
