use Rattle.std.proofs.Common.{◌∙◌, ap, map}
use Rattle.doslink_files.specs.Paths.{paths_of}
use Rattle.doslink_files.proofs.Looking.{found-new, path-at}
use Rattle.doslink_files.proofs.lookup.find_default.Goals as goal

pub returns-in-Ok-clause-found : goal.returns-in-Ok-clause-found
returns-in-Ok-clause-found g c =
    let folders = map (λ f. f.now) c.args.folders.now in
    let stands = path-at c.in_ok-paths.paths.items c.loop-path.path-index _ _
    (rw (← c.deref-path-items.ensures.value) c.loop-path-test.true)
    (c.in_ok-paths.ensures ∙ ap (λ es. paths_of es folders c.args.name.now) c.extensions.ensures) in
    found-new (g.W.World.bytes c.args.world.now) folders c.args.name.now c.as_str.result.now c.in-Ok.found
    (rw (c.as_str.ensures.value, c.path-item.is, c.deref-path-items.ensures.value) stands) c.in-Ok.ensures.read
