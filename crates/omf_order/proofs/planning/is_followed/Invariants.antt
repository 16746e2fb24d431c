use Rattle.std.proofs.Common.{◌≡◌, None, take}
use Rattle.std.specs.Prelude.{find}
use Rattle.std.specs.List.{enumerate_from}
use Rattle.omf_order.specs.Plan.{opens_behind_bss}
use Rattle.omf_order.specs.inside.Held.{parts_view}
use Rattle.omf_order.proofs.planning.is_followed.Given as goal

abbrev pub invariant-loop-place : goal.invariant-loop-place
invariant-loop-place l =
    find (opens_behind_bss (parts_view l.parts)) (take l.place (enumerate_from 0 (parts_view l.parts))) ≡ None
