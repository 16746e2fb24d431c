use Rattle.std.proofs.Common.{◌≡◌, [], All, map, take}
use Rattle.doslink_files.specs.Written.{StandsAt}
use Rattle.doslib_jobs.specs.Jobs.{StandsAsObject}
use Rattle.doslib_jobs.specs.inside.Libraries.{extracted_said}
use Rattle.doslib_jobs.proofs.extracting.put_members.Given as goal

abbrev pub invariant-loop-member : goal.invariant-loop-member
invariant-loop-member g l = record {
  stand : All (StandsAsObject (StandsAt (g.W.World.blank l.world) (g.W.World.Puts l.world)))
      (map extracted_said (take l.member-index l.members));
  lines : l.outcome.lines.items ≡ [];
  status : l.outcome.status ≡ 0;
}
