-- Publics as the code has them, and where those of a name are.
use Rattle.std.specs.Prelude.{◌≡◌, ◌&&◌, ℕ, nat_eq, Bool, List, [], Vec, filter, map}
use Rattle.std.specs.BTreeMap.{BTreeMap, get}
use Rattle.std.specs.Cmp.Lexicographic.{slice_cmp}
use Rattle.std.specs.List.{enumerate_from}
use Rattle.std.specs.Option.{option_cmp, option_eq, option_map_or}
use Rattle.std.specs.Ordering.{nat_cmp, ordering_then}
use Rattle.std.specs.Str.{bytes_eq}
use Rattle.std.specs.declared.cmp.Ordering.{Ordering}
use Rattle.doslink_telling.specs.declared.duplicates.Occurrence.{Occurrence}
use Rattle.doslink_telling.specs.declared.duplicates.Public as code
use Rattle.doslink_telling.specs.declared.duplicates.PublicKey.{PublicKey}
use Rattle.doslink_telling.specs.declared.duplicates.Duplicate.{Duplicate}
use Rattle.doslink_telling.specs.Duplicates.{Public}

abbrev pub public_said : {A : Type 0} → code.Public A → Public
public_said p = record { owner = p.owner; spelled = p.spelled.items; name = p.name.now; input = p.input }

-- a place and what is there
abbrev pub duplicate_said : {A : Type 0} → Duplicate A → ℕ × Public
duplicate_said d = (d.place, public_said d.public.now)

-- where a public is
abbrev pub occurrence_of : ℕ × Public → Occurrence
occurrence_of e = record { place = e.0; input = e.1.input }

-- how a key stands to another one
abbrev pub key_order : PublicKey → PublicKey → Ordering
key_order x y = ordering_then (option_cmp nat_cmp x.owner y.owner) (slice_cmp nat_cmp x.spelled.now y.spelled.now)

-- a key is that of a public
abbrev pub is_key_of : PublicKey → Public → Bool
is_key_of k p = option_eq nat_eq k.owner p.owner && bytes_eq k.spelled.now p.spelled

-- two keys are one
abbrev pub same_key : PublicKey → PublicKey → Bool
same_key x y = option_eq nat_eq x.owner y.owner && bytes_eq x.spelled.now y.spelled.now

-- what a map has for a key
abbrev pub places_at : {A : Type 0} → BTreeMap PublicKey (Vec Occurrence A) → PublicKey → List Occurrence
places_at places k = option_map_or (λ v. v.items) (get key_order places k) []

-- a map has for each key where its publics are
abbrev pub IsIndex : {A : Type 0} → List Public → BTreeMap PublicKey (Vec Occurrence A) → Type 0
IsIndex all places =
    (k : PublicKey) → places_at places k ≡ map occurrence_of (filter (λ e. is_key_of k e.1) (enumerate_from 0 all))
