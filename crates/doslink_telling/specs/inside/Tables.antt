-- Symbol tables, and what is taken of them, as the code has them.
use Rattle.std.specs.Prelude.{◌≡◌, ℕ, List, Vec}
use Rattle.std.specs.BTreeSet.{BTreeSet, contains}
use Rattle.std.specs.Borrow.{Bor}
use Rattle.std.specs.List.{list_any}
use Rattle.std.specs.Str.{bytes_eq}
use Rattle.std.specs.Cmp.Lexicographic.{slice_cmp}
use Rattle.std.specs.Ordering.{nat_cmp}
use Rattle.doslink_telling.specs.declared.symbols.Symbol as code
use Rattle.doslink_telling.specs.Symbols.{Symbol}

-- a number, and what stands behind it
abbrev pub number_said : ℕ × Bor (List ℕ) → ℕ × List ℕ
number_said p = (p.0, p.1.now)

-- a name, and where its member is
abbrev pub symbol_said : code.Symbol → Symbol
symbol_said s = record { name = s.name.now; place = s.place }

-- a set has these names
abbrev pub IsSetOf : {A : Type 0} → List (List ℕ) → BTreeSet (Vec ℕ A) → Type 0
IsSetOf {A} names set =
    (q : Vec ℕ A) → contains (λ x y. slice_cmp nat_cmp x.items y.items) set q ≡ list_any (λ n. bytes_eq n q.items) names
