use Rattle.std.proofs.Common.{map}
use Rattle.doslink_files.proofs.Looking.{paths-more}
use Rattle.doslink_files.proofs.paths.paths_of.Goals as goal

pub loop-folder-preserved : goal.loop-folder-preserved
loop-folder-preserved g c = paths-more (map (λ e. e.now) c.args.extensions.now) c.args.name.now c.args.folders.now
    c.loop-folder.folder-index _ _ _ c.loop-folder-test.true c.loop-folder.invariant c.in_ok-push_paths-2.ensures
