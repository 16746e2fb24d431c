-- Names in an order, in which those that agree stand together.
use Rattle.std.specs.Prelude.{ℕ, List, find, option_map, Option}
use Rattle.std.specs.Cmp.Lexicographic.{slice_cmp}
use Rattle.std.specs.List.Sorted.{IsSortedBy}
use Rattle.std.specs.Ordering.{is_lt, nat_cmp}
use Rattle.std.specs.declared.cmp.Ordering.{Ordering}
use Rattle.omf_place.specs.Names.{agrees, spelled}
use Rattle.omf_place.specs.declared.names.Names.{Names}
use Rattle.omf_alias.specs.declared.named.NamedValue.{NamedValue}

-- names by the bytes that count of them
abbrev pub compared : Names → (one other : List ℕ) → Ordering
compared names one other = slice_cmp nat_cmp (spelled names one) (spelled names other)

-- values stand in the order of their names
abbrev pub IsByName : {V : Type 0} → Names → List (NamedValue V) → Type 0
IsByName names values = IsSortedBy (λ x y. is_lt (compared names x.name.now y.name.now)) values

-- the value of the first whose name agrees
abbrev pub value_of : {V : Type 0} → Names → List (NamedValue V) → (name : List ℕ) → Option V
value_of names values name = option_map (λ v. v.value) (find (λ v. agrees names v.name.now name) values)
