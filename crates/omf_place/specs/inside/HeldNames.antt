-- Names and their tables as the code holds them.
use Rattle.std.specs.Prelude.{◌≡◌, ℕ, ◌<◌, List, [], ◌∷◌, ◌++◌, get_or, length, map, Option, Some, None, IfSome, Vec}
use Rattle.omf_place.specs.Names.{Table}
use Rattle.omf_place.specs.inside.Named.{folded}
use Rattle.omf_place.specs.inside.Steps.{empty}
use Rattle.std.specs.List.{range_with_len}
use Rattle.omf_place.specs.Scopes.{ScopedName, table}
use Rattle.omf_place.specs.declared.folded.FoldedName.{FoldedName}
use Rattle.omf_place.specs.declared.folded.FoldedName.TheVariants.{Held, Asked}
use Rattle.omf_place.specs.declared.named.ByName.{ByName}
use Rattle.omf_place.specs.declared.named.ByName.TheVariants as by
use Rattle.omf_place.specs.declared.names.Names.{Names}
use Rattle.omf_place.specs.declared.names.Names.TheVariants.{Exact, AsciiFolded}
use Rattle.omf_place.specs.declared.scopes.Entry as held

-- the names of each of some modules, by its index
abbrev pub local_tables : {V : Type 0} → Names → (count : ℕ) → List (ScopedName V) → List (Table V)
local_tables names count es = map (λ m. table names (Some m) es) (range_with_len 0 count)

-- the name of a key
abbrev pub key_name : {A : Type 0} → FoldedName A → List ℕ
key_name (Held name) = name.items
key_name (Asked name) = name.now

-- what of it counts
abbrev pub folded_key : {A : Type 0} → FoldedName A → List ℕ
folded_key key = folded (key_name key)

-- entries by their names
abbrev pub exact_entries : {A V : Type 0} → List (Vec ℕ A × V) → List (List ℕ × V)
exact_entries es = map (λ e. (e.0.items, e.1)) es

-- entries by their names
abbrev pub folded_entries : {A V : Type 0} → List (FoldedName A × V) → List (List ℕ × V)
folded_entries es = map (λ e. (key_name e.0, e.1)) es

-- a table of names that agree byte for byte
abbrev pub exact_table : {A V : Type 0} → List (Vec ℕ A × V) → Table V
exact_table es = record { names = Exact; entries = exact_entries es }

-- a table of names that agree without regard to case
abbrev pub folded_table : {A V : Type 0} → List (FoldedName A × V) → Table V
folded_table es = record { names = AsciiFolded; entries = folded_entries es }

-- a table as a value
abbrev pub table_view : {A V : Type 0} → ByName V A → Table V
table_view (by.Exact m) = exact_table m.entries
table_view (by.AsciiFolded m) = folded_table m.entries

-- a table, with a name more at the end
abbrev pub with_entry : {V : Type 0} → Table V → List ℕ → V → Table V
with_entry t name value = record { names = t.names; entries = t.entries ++ (name, value) ∷ [] }

-- an entry as a value
abbrev pub entry_view : {V : Type 0} → held.Entry V → ScopedName V
entry_view e = record { owner = e.owner; name = e.name.now; value = e.value }

-- the names known to all, and those of each module
pub record Scopes (V : Type 0) : Type 0 where
  pub shared : Table V
  pub locals : List (Table V)

-- the names of some entries
abbrev pub scopes_of : {V : Type 0} → Names → (count : ℕ) → List (ScopedName V) → Scopes V
scopes_of names count es = record { shared = table names None es; locals = local_tables names count es }

-- what is out of range isn't looked at
abbrev pub local_table : {V : Type 0} → Scopes V → (input : ℕ) → Table V
local_table s input = get_or s.locals input (empty Exact)

-- the names of an owner
abbrev pub table_of : {V : Type 0} → Scopes V → (owner : Option ℕ) → Table V
table_of s None = s.shared
table_of s (Some m) = local_table s m

-- an owner that has a table
abbrev pub IsModuleOf : {V : Type 0} → Scopes V → Option ℕ → Type 0
IsModuleOf s owner = IfSome owner (λ m. m < length s.locals)

-- an owner among some modules
abbrev pub IsOwner : (count : ℕ) → Option ℕ → Type 0
IsOwner count owner = IfSome owner (λ m. m < count)

-- the tables of some entries, of modules by their number
pub record HoldsAll {V : Type 0} (names : Names) (count : ℕ) (es : List (ScopedName V)) (s : Scopes V) : Type 0 where
  pub modules : length s.locals ≡ count
  pub tables : (owner : Option ℕ) → IsOwner count owner → table_of s owner ≡ table names owner es
