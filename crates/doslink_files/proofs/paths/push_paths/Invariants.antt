use Rattle.std.proofs.Common.{◌≡◌, ◌++◌, map, string_bytes, take}
use Rattle.doslink_files.specs.Paths.{paths_in}
use Rattle.doslink_files.proofs.paths.push_paths.Given as goal

abbrev pub invariant-loop-extension : goal.invariant-loop-extension
invariant-loop-extension g l = map string_bytes l.paths.items
    ≡ map string_bytes l.initial.paths.items
    ++ paths_in (map (λ e. e.now) (take l.extension-index l.extensions)) l.name l.folder
