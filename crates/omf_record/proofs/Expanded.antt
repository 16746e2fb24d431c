-- What blocks expand to: how long it is, and how it goes on behind what is laid.
use Rattle.std.specs.List.{repeat as copies}
use Rattle.std.proofs.Common.{◌≡◌, ◌≢◌, ℕ, zero, suc, ◌+◌, ◌*◌, List, [], ◌∷◌, ◌++◌, ◌<◌, ◌≤◌, inl, inr, min, length}
use Rattle.std.proofs.Common.{get_or, map, take, drop, refl, sym, ap, ◌∙◌, append_assoc, arith}
use Rattle.std.proofs.lemmas.Bool.{cases_lt}
use Rattle.std.proofs.lemmas.Grind.{same_number_lists}
use Rattle.std.proofs.lemmas.Nat.{mul-le}
use Rattle.std.proofs.lemmas.List.{length-append, length-map, length-take-le, map-append, append-nil, drop_more}
use Rattle.std.proofs.lemmas.List.{drop_all, take-append-le}
use Rattle.std.proofs.Math.Seq.{take-append-add}
use borrow.Rule.Slice.PartMut.{put_mid, post_of}
use Rattle.omf_record.specs.Record.{Block, Content, Nested, Blocks, End, More, blocks_of}
use Rattle.omf_record.specs.Expansion.{stored_len, expansion_at, expansions_at, expansion, places, bytes}
use Rattle.omf_record.specs.Expansion.{capped}
use Rattle.omf_record.specs.inside.Fields.{stored_from}
use Rattle.omf_record.specs.inside.Expansion.{repeat_of, once_at, expanded_len, all_expanded_len}
use Rattle.omf_record.proofs.Repetition.{length-copies, map-copies}

-- ---- bytes with their places

pub bytes-stored : (place : ℕ) (content : List ℕ) → bytes (stored_from place content) ≡ content
bytes-stored place [] = refl
bytes-stored place (b ∷ content) = ap (λ t. b ∷ t) (bytes-stored (place + 1) content)

pub length_stored : (place : ℕ) (content : List ℕ) → length (stored_from place content) ≡ length content
length_stored place [] = refl
length_stored place (b ∷ content) = ap suc (length_stored (place + 1) content)

pub length-stored : (place : ℕ) (content : List ℕ) → length (stored_from place content) ≡ length content
length-stored = length_stored

pub place-at : (place : ℕ) (content : List ℕ) (k : ℕ) → k < length content
    → get_or (places (stored_from place content)) k 0 ≡ place + k
place-at place [] k lt = absurd (omega arith)
place-at place (b ∷ content) zero lt = omega arith
place-at place (b ∷ content) (suc k) lt = place-at (place + 1) content k (omega arith) ∙ omega arith

-- items numbered from a place on
pub numbered : (place : ℕ) (content items : List ℕ) → length items ≡ length content
    → ((k : ℕ) → k < length items → get_or items k 0 ≡ place + k) → items ≡ places (stored_from place content)
numbered place content items len at =
    same_number_lists items (places (stored_from place content))
    (omega (arith, len, length-map (stored_from place content) (λ p. p.0), length_stored place content))
    (λ k lt. at k lt ∙ sym (place-at place content k (omega (arith, len))))

-- ---- a block

pub expansion_is : (place : ℕ) (b : Block) → expansion_at place b ≡ copies (repeat_of b) (once_at place b)
expansion_is place (Content repeat bytes) = refl
expansion_is place (Nested repeat blocks) = refl

pub expanded : (place : ℕ) (b : Block) → length (expansion_at place b) ≡ repeat_of b * length (once_at place b)
expanded place b = ap length (expansion_is place b) ∙ length-copies (repeat_of b) (once_at place b)

pub once_fits : (place : ℕ) (b : Block) → repeat_of b ≢ 0 → length (once_at place b) ≤ length (expansion_at place b)
once_fits place b some =
    omega (
      arith,
      expanded place b,
      mul-le 1 (length (once_at place b)) (repeat_of b) (length (once_at place b)) (omega arith) (omega arith),
    )

pub repeated : (g : ℕ × ℕ → ℕ) (place : ℕ) (b : Block) {n : ℕ} {once laid : List ℕ} → n ≡ repeat_of b
    → once ≡ map g (once_at place b) → laid ≡ copies n once → laid ≡ map g (expansion_at place b)
repeated g place b times is so_far =
    rw (so_far, times, is) (sym (ap (map g) (expansion_is place b) ∙ map-copies g (repeat_of b) (once_at place b)))

-- ---- blocks

-- the blocks from one on
pub next_is : {X : Type 0} (f : X → Block) (xs : List X) (i : ℕ) (x : X) → i < length xs → x ≡ get_or xs i x
    → blocks_of (map f (drop i xs)) ≡ More (f x) (blocks_of (map f (drop (i + 1) xs)))
next_is f xs i x lt is =
    ap (λ ys. blocks_of (map f ys)) (drop_more xs i x lt)
    ∙ ap (λ y. More (f y) (blocks_of (map f (drop (i + 1) xs)))) (sym is)

-- how much of the expansion they are
pub expansions_more : (place : ℕ) (b : Block) {bs left : Blocks} → left ≡ More b bs
    → length (expansions_at place left)
    ≡ length (expansion_at place b) + length (expansions_at (place + stored_len b) bs)
expansions_more place b {bs} is =
    ap (λ xs. length (expansions_at place xs)) is
    ∙ length-append (expansion_at place b) (expansions_at (place + stored_len b) bs)

-- all is laid
pub all_laid : {X : Type 0} (f : X → Block) (g : ℕ × ℕ → ℕ) (place : ℕ) (xs : List X) (i : ℕ) {front whole : List ℕ}
    → length xs ≤ i → front ++ map g (expansions_at place (blocks_of (map f (drop i xs)))) ≡ whole → front ≡ whole
all_laid f g place xs i {front} end laid = sym (append-nil front) ∙ rw (drop_all i xs end) at laid

-- what stands at the front after a write behind it
take_put : (at k len : ℕ) (old new : List ℕ) → at ≤ length old → len ≤ length new
    → take (at + len) (put_mid at k old new) ≡ take at old ++ take len new
take_put at k len old new le fits =
    ap (λ n. take (n + len) (put_mid at k old new)) (sym (length-take-le at old le))
    ∙ take-append-add (take at old) (new ++ post_of at k old) len
    ∙ ap (λ t. take at old ++ t) (take-append-le len new (post_of at k old) fits)

-- one more block was laid
pub laid_more : (g : ℕ × ℕ → ℕ) (place : ℕ) (b : Block) {bs left : Blocks} (at k len : ℕ) (old new whole : List ℕ)
    → left ≡ More b bs → at ≤ length old → len ≤ length new
    → take len new ≡ map g (expansion_at place b) → take at old ++ map g (expansions_at place left) ≡ whole
    → take (at + len) (put_mid at k old new) ++ map g (expansions_at (place + stored_len b) bs) ≡ whole
laid_more g place b {bs} at k len old new whole is le fits here so_far =
    let rest = expansions_at (place + stored_len b) bs in
    rw (take_put at k len old new le fits, here) (append_assoc (take at old) (map g (expansion_at place b)) (map g rest)
    ∙ ap (λ t. take at old ++ t)
    (sym (map-append g (expansion_at place b) rest) ∙ ap (λ z. map g (expansions_at place z)) (sym is)) ∙ so_far)

-- ---- the length by its own recursion, and with a limit

mutual
  length-expansion_at : (place : ℕ) (b : Block) → length (expansion_at place b) ≡ expanded_len b
  length-expansion_at place (Content repeat bytes) =
      expanded place (Content repeat bytes) ∙ ap (λ n. repeat * n) (length_stored (place + 5) bytes)
  length-expansion_at place (Nested repeat blocks) =
      expanded place (Nested repeat blocks) ∙ ap (λ n. repeat * n) (length-expansions_at (place + 4) blocks)

  length-expansions_at : (place : ℕ) (bs : Blocks) → length (expansions_at place bs) ≡ all_expanded_len bs
  length-expansions_at place End = refl
  length-expansions_at place (More b bs) =
      let after = place + stored_len b in
      omega (
        arith,
        length-append (expansion_at place b) (expansions_at after bs),
        length-expansion_at place b,
        length-expansions_at after bs,
      )

pub length_expansion : (bs : List Block) → length (expansion bs) ≡ all_expanded_len (blocks_of bs)
unfolding expansion
length_expansion bs = length-expansions_at 0 (blocks_of bs)

pub cap_mul : (r n : ℕ) → min (r * min n 65537) 65537 ≡ capped (r * n)
cap_mul zero n = omega arith
cap_mul (suc r) n = elim (cases_lt n 65537) [
  | inl lt ↦ let e : min n 65537 ≡ n = omega arith in rw e refl
  | inr le ↦ omega (arith, mul-le (suc r) 65537 (suc r) n (omega arith) le)
]
