-- Each byte of an expansion is the byte that stands at its place, so that bytes of one place are one byte.
use Rattle.std.proofs.Common.{◌≡◌, ℕ, zero, suc, ◌+◌, ◌<◌, List, [], ◌∷◌, length, get_or, sym, ap, ◌∙◌, arith}
use Rattle.std.specs.List.{AllByRecursion}
use Rattle.omf_record.specs.Record.{Block, blocks_of}
use Rattle.omf_record.specs.Canonical as canon
use Rattle.omf_record.specs.Expansion.{expansions_at, expansion, places, bytes, AreCopies}
use Rattle.omf_record.specs.inside.Fields.{stored_from}
use Rattle.omf_record.proofs.Places.{all_of_blocks}

-- each byte stands at its place of the text
abbrev Stand : List ℕ → List (ℕ × ℕ) → Type 0
Stand text = AllByRecursion (λ (q : ℕ × ℕ). get_or text q.0 0 ≡ q.1)

-- a text stands in itself
stand-stored : (text : List ℕ) (place : ℕ) (bytes : List ℕ)
    → ((k : ℕ) → k < length bytes → get_or text (place + k) 0 ≡ get_or bytes k 0) → Stand text (stored_from place bytes)
stand-stored text place [] f = tt
stand-stored text place (b ∷ bytes) f = (
  ap (λ n. get_or text n 0) here ∙ f 0 (omega arith),
  stand-stored text (place + 1) bytes
      (λ k lt.
      let next : place + 1 + k ≡ place + suc k = omega arith in
      ap (λ n. get_or text n 0) next ∙ f (suc k) (omega arith)),
)
  where
    here : place ≡ place + 0
    here = omega arith

stand-all : (text : List ℕ) → Stand text (stored_from 0 text)
stand-all text = stand-stored text 0 text (λ k lt. let same : 0 + k ≡ k = omega arith in ap (λ n. get_or text n 0) same)

byte-at : (text : List ℕ) (xs : List (ℕ × ℕ)) → Stand text xs → (i : ℕ) → i < length xs
    → get_or text (get_or (places xs) i 0) 0 ≡ get_or (bytes xs) i 0
byte-at text [] f i lt = absurd (omega arith)
byte-at text (x ∷ xs) f zero lt = f.0
byte-at text (x ∷ xs) f (suc i) lt = byte-at text xs f.1 i (omega arith)

copies_of : (text : List ℕ) (xs : List (ℕ × ℕ)) → Stand text xs → AreCopies xs
copies_of text xs f i j a b e = sym (byte-at text xs f i a) ∙ ap (λ p. get_or text p 0) e ∙ byte-at text xs f j b

pub are_copies-stored : (text : List ℕ) → AreCopies (stored_from 0 text)
are_copies-stored text = copies_of text (stored_from 0 text) (stand-all text)

pub are_copies : (bs : List Block) → AreCopies (expansion bs)
unfolding expansion
are_copies bs =
    let text = canon.blocks_text (blocks_of bs) in
    copies_of text (expansions_at 0 (blocks_of bs)) (all_of_blocks _ 0 (blocks_of bs) (stand-all text))
