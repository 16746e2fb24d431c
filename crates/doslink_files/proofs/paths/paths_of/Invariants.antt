use Rattle.std.proofs.Common.{◌≡◌, map, string_bytes, take}
use Rattle.doslink_files.specs.Paths as spec
use Rattle.doslink_files.proofs.paths.paths_of.Given as goal

abbrev pub invariant-loop-folder : goal.invariant-loop-folder
invariant-loop-folder g l = map string_bytes l.paths.items
    ≡ spec.paths_of (map (λ e. e.now) l.extensions) (map (λ f. f.now) (take l.folder-index l.folders)) l.name
