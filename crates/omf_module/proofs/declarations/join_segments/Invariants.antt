use Rattle.std.proofs.Common.{◌≡◌, ◌++◌, take}
use Rattle.omf_module.proofs.declarations.join_segments.Given as goal

-- those so far
abbrev pub invariant-loop-index : goal.invariant-loop-index
invariant-loop-index g l =
    l.store ≡ record l.fn.store { segments = l.fn.store.segments ++ take l.index l.more.segments }
