use Rattle.std.proofs.Common.{◌≡◌, ◌++◌, map, take}
use Rattle.omf_module.proofs.builder.add_names.Given as goal

abbrev pub invariant-loop-name : goal.invariant-loop-name
invariant-loop-name g l =
    l.store ≡ record l.fn.store { names = l.fn.store.names ++ map (λ n. n.now) (take l.name-index l.names) }
