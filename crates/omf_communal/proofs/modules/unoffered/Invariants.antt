use Rattle.std.proofs.Common.{◌≡◌, ℕ, Bool, List, filter, map, not, take}
use Rattle.std.specs.Borrow.{Bor}
use Rattle.indexmap.specs.IndexSet.{contains}
use Rattle.omf_communal.specs.Modules.{Declared}
use Rattle.omf_keys.specs.Keys.{key_of, same_key}
use Rattle.omf_communal.specs.inside.Met.{declared_said}
use Rattle.omf_communal.proofs.modules.unoffered.Given as goal

abbrev pub invariant-loop-each : goal.invariant-loop-each
invariant-loop-each g l = (offers : List ℕ → Bool) →
    ((q : Bor (List ℕ)) → contains same_key l.fn.offered (key_of l.fn.names q) ≡ offers q.now) →
    map declared_said l.wanted.items ≡
    filter (λ (d : Declared). not (offers d.name)) (map declared_said (take l.each-index l.declared))
