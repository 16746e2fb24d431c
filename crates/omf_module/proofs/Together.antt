-- A location that lies in a content has its bytes together, and each in a whole copy of it, wherever the content comes
-- out of an expansion.
use Rattle.std.proofs.Common.{◌≡◌, ℕ, ◌+◌, ◌≤◌, Bool, true, false, List, [], ◌∷◌, length, refl, arith, inl, inr}
use Rattle.std.proofs.lemmas.Bool.Decides.{nat_tests}
use Rattle.omf_record.specs.Record.{Block}
use Rattle.omf_record.specs.Expansion.{expansion, places, contents, LiesInOne, StandTogether, StandWhole}
use Rattle.omf_record.specs.inside.Fields.{stored_from}
use Rattle.omf_record.proofs.Together.{together, together-stored, whole, whole-stored}
use Rattle.omf_module.specs.inside.Contents.{lies_within, lies_in}

within_is : (at width : ℕ) (c : ℕ × ℕ) → lies_within at width c ≡ true → (c.0 ≤ at) × (at + width ≤ c.0 + c.1)
within_is at width c e = (grind (arith, nat_tests), grind (arith, nat_tests))

lies_in_one : (cs : List (ℕ × ℕ)) (at width : ℕ) → lies_in cs at width ≡ true → LiesInOne at width cs
lies_in_one [] at width e = absurd cc
lies_in_one (c ∷ cs) at width e = go (lies_within at width c) refl (λ k. lies_in_one cs at width k)
  where
    go : (b : Bool) → lies_within at width c ≡ b → (lies_in cs at width ≡ true → LiesInOne at width cs)
        → LiesInOne at width (c ∷ cs)
    go true k rest = inl (within_is at width c k)
    go false k rest = inr (rest (rw k at e))

-- how the places of a location stand in data
pub record Stand (at width : ℕ) (pairs : List (ℕ × ℕ)) : Type 0 where
  pub together : StandTogether at width (places pairs)
  pub whole : StandWhole at width (places pairs)

-- each location in one of the contents
abbrev pub AllStand : List (ℕ × ℕ) → List (ℕ × ℕ) → Type 0
AllStand cs pairs = (at width : ℕ) → lies_in cs at width ≡ true → Stand at width pairs

pub stored_stand : (bytes : List ℕ) → AllStand ((0, length bytes) ∷ []) (stored_from 0 bytes)
stored_stand bytes at width e = elim (lies_in_one ((0, length bytes) ∷ []) at width e) [
  | inl l ↦
      record { together = together-stored at width 0 bytes l.0 l.1; whole = whole-stored at width 0 bytes l.0 l.1 }
  | inr l ↦ absurd l
]

pub repeated_stand : (blocks : List Block) → AllStand (contents blocks) (expansion blocks)
repeated_stand blocks at width e =
    let l = lies_in_one (contents blocks) at width e in
    record { together = together blocks at width l; whole = whole blocks at width l }
