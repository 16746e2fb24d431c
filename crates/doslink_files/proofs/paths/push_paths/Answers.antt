use Rattle.doslink_files.proofs.Looking.{path-more}
use Rattle.doslink_files.proofs.paths.push_paths.Goals as goal

pub loop-extension-preserved : goal.loop-extension-preserved
loop-extension-preserved g c =
    path-more c.args.paths.now.items _ _ _ c.args.extensions.now c.loop-extension.extension-index _
    c.args.name.now c.args.folder.now c.loop-extension-test.true c.in_ok-push.ensures.items c.in_ok-path_in.ensures
    c.loop-extension.invariant
