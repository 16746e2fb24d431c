use Rattle.std.proofs.Common.{◌≡◌, ◌++◌, take}
use Rattle.omf_search.specs.Results.{bytes_of}
use Rattle.doslink_passes.specs.inside.Defined.{names_held}
use Rattle.doslink_passes.proofs.meanings.push_names.Given as goal

abbrev pub invariant-loop-name : goal.invariant-loop-name
invariant-loop-name g l =
    names_held l.held.items ≡ names_held l.initial.held.items ++ bytes_of (take l.name-index l.fn.these)
