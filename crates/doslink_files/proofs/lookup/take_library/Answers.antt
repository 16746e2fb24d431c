use Rattle.std.proofs.Common.{◌∙◌, ap, map, string_bytes}
use Rattle.doslink_files.specs.Paths.{paths_of}
use Rattle.doslink_files.proofs.Looking.{first-of}
use Rattle.doslink_files.proofs.lookup.take_library.Goals as goal

pub returns : goal.returns
returns g c =
    let folders = map (λ f. f.now) c.args.folders.now in
    first-of (g.W.World.bytes c.args.world.now) (g.W.World.holds c.args.world.now) c.args.known.now _ _
    c.take_first.result
    (ap (map string_bytes) c.deref.ensures.value ∙ c.in_ok-paths.ensures
    ∙ ap (λ es. paths_of es folders c.args.name.now) c.extensions.ensures)
    c.take_first.ensures
