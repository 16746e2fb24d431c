use Rattle.doslink_words.specs.Tokens.{texts}
use Rattle.doslink_files.specs.Written.{StandsAt}
use Rattle.doslink_jobs.specs.Jobs.{IsDone}
use Rattle.doslink_jobs.specs.Places.{map_path, out_path}
use Rattle.doslink_jobs.specs.Refusals.{IsRefusedJob}
use Rattle.doslink_jobs.specs.Wrong.{AreApart, IsNamedWell, IsWrongJob}
use Rattle.doslink_jobs.proofs.Doing.{ends}
use Rattle.doslink_jobs.proofs.running.run_lines.Goals as goal

pub returns : goal.returns
returns g c =
    let told = g.W.World.bytes c.args.world in
    let Writes = StandsAt (g.W.World.blank c.args.world) (g.W.World.Puts c.args.world) in
    let folders = texts c.args.besides.now.folders.now in
    let looks = g.W.World.looks c.args.world in
    let job = c.args.job.now in
    ends (IsNamedWell folders job × AreApart looks job.verbose (out_path job) (map_path job)
    × IsDone g.row.A.Denot told Writes folders job)
    (IsNamedWell folders job × IsRefusedJob g.row.A.Denot told folders job) (IsWrongJob told looks folders job) _
    c.do_job-done.result c.finish.result _ c.finish.ensures.status c.do_job-done.ensures c.finish.ensures.told
