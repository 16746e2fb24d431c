-- Names as keys.
use Rattle.std.specs.Prelude.{ℕ, ◌+◌, ◌*◌, ◌%◌, ◌^◌, Bool, List, [], ◌∷◌, length}
use Rattle.std.specs.declared.cmp.Ordering.{Ordering}
use Rattle.std.specs.Borrow.{Bor}
use Rattle.std.specs.Cmp.Lexicographic.{slice_cmp}
use Rattle.std.specs.Hash as fed
use Rattle.std.specs.List.{flat_map, fold}
use Rattle.std.specs.Ordering.{nat_cmp}
use Rattle.std.specs.Str.{bytes_eq}
use Rattle.omf_place.specs.Names.{spelled}
use Rattle.omf_place.specs.declared.names.Names.{Names}
use Rattle.omf_place.specs.declared.names.Names.TheVariants as by
use Rattle.omf_keys.specs.declared.key.Key.{Key}
use Rattle.omf_keys.specs.declared.key.Key.TheVariants.{Exact, AsciiFolded}

-- a number of 64 bits that bytes make: names that aren't one mostly have two
abbrev pub digest_of : List ℕ → ℕ
digest_of name = fold (λ digest byte. (digest * 1099511628211 % 2 ^ 64 + byte) % 2 ^ 64) 0 name

-- the key of a name under a choice
abbrev pub key_of : Names → Bor (List ℕ) → Key
key_of by.Exact name = Exact (digest_of name.now) name
key_of by.AsciiFolded name = AsciiFolded (digest_of (spelled by.AsciiFolded name.now)) name

-- a text behind its length
abbrev pub by_length : List ℕ → List ℕ
by_length text = length text ∷ text

-- what of a key counts, in the order in which it does: the choice, the digest, how long the name is, and the name by
-- the choice
abbrev pub key_text : Key → List ℕ
key_text (Exact digest name) = 0 ∷ digest ∷ by_length name.now
key_text (AsciiFolded digest name) = 1 ∷ digest ∷ by_length (spelled by.AsciiFolded name.now)

-- two keys are one
abbrev pub same_key : Key → Key → Bool
same_key x y = bytes_eq (key_text x) (key_text y)

-- how a key stands to another one
abbrev pub key_order : Key → Key → Ordering
key_order x y = slice_cmp nat_cmp (key_text x) (key_text y)

-- what of a key a hasher is fed, by its text: the name in single bytes
abbrev pub text_fed : List ℕ → List (List ℕ)
text_fed (choice ∷ digest ∷ size ∷ name) = flat_map fed.u8 name
text_fed other = []
