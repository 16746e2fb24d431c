use Rattle.std.proofs.Common.{◌<◌, length, rules}
use Rattle.doslib_jobs.proofs.Searching.{added-more, added-none}
use Rattle.doslib_jobs.proofs.matching.search_all.Goals as goal

pub loop-path-init : goal.loop-path-init
loop-path-init g c = record {
  working = c.requires;
  added = added-none _ _ _ _ _ (search rules) c.new.ensures.lines c.new.ensures.status;
}

pub loop-path-preserved : goal.loop-path-preserved
loop-path-preserved g c =
    let here : c.loop-path.path-index < length c.args.files.now = search rules in
    record {
      working = c.in_ok-search_file.ensures.working;
      added = added-more _ _ _ c.args.files.now c.loop-path.path-index _ _ _ _ _ _ here c.loop-path.invariant.added
          c.in_ok-search_file.ensures.adds;
    }
