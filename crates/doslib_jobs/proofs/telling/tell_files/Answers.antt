use Rattle.std.proofs.Common.{◌<◌, length, rules}
use Rattle.doslib_jobs.proofs.Running.{ran-all, ran-more, ran-none}
use Rattle.doslib_jobs.proofs.telling.tell_files.Goals as goal

pub loop-path-init : goal.loop-path-init
loop-path-init g c = record {
  working = c.requires;
  ran = ran-none _ _ _ _ _ c.new-outcome.ensures.lines c.new-outcome.ensures.status;
}

pub loop-path-preserved : goal.loop-path-preserved
loop-path-preserved g c =
    let here : c.loop-path.path-index < length c.args.files.now = search rules in
    record {
      working = c.in_ok-tell_file.ensures.working;
      ran = ran-more _ _ c.args.files.now c.loop-path.path-index _ _ _ _ _ _ here c.loop-path.invariant.ran
          c.in_ok-tell_file.ensures.adds;
    }

pub returns : goal.returns
returns g c =
    ran-all _ _ c.args.files.now c.loop-path.path-index _ _ _ _ _ c.loop-path-test.false c.loop-path.invariant.ran
    c.flush.ensures.same
