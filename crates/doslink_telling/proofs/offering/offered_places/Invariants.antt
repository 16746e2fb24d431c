use Rattle.std.proofs.Common.{◌≡◌, ℕ, List, map, take}
use Rattle.std.specs.BTreeSet.{contains}
use Rattle.std.specs.Ordering.{nat_cmp}
use Rattle.omf_place.specs.Names.{spelled}
use Rattle.doslink_telling.specs.Offering.{offers}
use Rattle.doslink_telling.specs.inside.Tables.{IsSetOf, symbol_said}
use Rattle.doslink_telling.proofs.offering.offered_places.Given as goal

abbrev pub invariant-loop-symbol : goal.invariant-loop-symbol
invariant-loop-symbol g l = (all : List (List ℕ)) → IsSetOf (map (spelled l.fn.names) all) l.fn.missing
    → (q : ℕ) → contains nat_cmp l.places q ≡ offers l.fn.names all (map symbol_said (take l.symbol-index l.fn.found)) q
