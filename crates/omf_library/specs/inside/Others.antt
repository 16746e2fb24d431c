-- Names of externals that aren't among some of them, as sets.
use Rattle.std.specs.Prelude.{ℕ, ◌+◌, Bool, false, not, ◌&&◌, ◌||◌, if◌then◌else◌, List, [], ◌∷◌, None}
use Rattle.std.specs.Borrow.{Bor}
use Rattle.std.specs.Cmp.Lexicographic.{slice_cmp}
use Rattle.std.specs.Ordering.{nat_cmp}
use Rattle.std.specs.declared.cmp.Ordering.{Ordering}
use Rattle.std.specs.declared.option.Option.{Option}
use Rattle.omf_library.specs.Defaults.{is_named}

-- names by their bytes
abbrev pub bytes_cmp : Bor (List ℕ) → Bor (List ℕ) → Ordering
bytes_cmp x y = slice_cmp nat_cmp x.now y.now

-- the name of an external that isn't marked
abbrev pub other_name : (is_marked : Bool) → Option (List ℕ) → Option (List ℕ)
other_name is_marked external = if is_marked then None else external

-- some external has the name and an index that isn't marked, the first having this index
abbrev pub has_name_at : (is_marked : ℕ → Bool) → (name : List ℕ) → (index : ℕ) → List (Option (List ℕ)) → Bool
has_name_at is_marked name index [] = false
has_name_at is_marked name index (external ∷ externals) =
    (is_named name external && not (is_marked index)) || has_name_at is_marked name (index + 1) externals
