use Rattle.std.proofs.Common.{◌≡◌, ◌++◌, map, take}
use Rattle.doslib_words.specs.Words.{texts}
use Rattle.doslib_jobs.proofs.taking.push_members.Given as goal

abbrev pub invariant-loop-member : goal.invariant-loop-member
invariant-loop-member g l =
    texts l.modules.items
    ≡ texts l.initial.modules.items ++ map (λ m. m.bytes.now) (take l.member-index l.fn.members)
