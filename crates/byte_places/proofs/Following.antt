-- The places of a word, followed from one to the next.
use Rattle.std.proofs.Common.{◌≡◌, ℕ, ◌+◌, ◌-◌, ◌<◌, ◌≤◌, Bool, true, false, ◌&&◌, leb, cond, List, [], ◌∷◌, ◌++◌}
use Rattle.std.proofs.Common.{length, take, sym, ap, ◌∙◌, arith, append-nil, inl, inr, le-leb}
use Rattle.std.proofs.lemmas.Bool.{cases_lt, lt-leb, cond-false, false_from_ne_true}
use Rattle.byte_places.specs.Chains.{IsNext, word_at}
use Rattle.byte_places.specs.inside.Found.{found_at, found_before}
use Rattle.byte_places.proofs.Listing.{below, below-more, below-skip, first-all}

-- what passes has the word so many bytes behind it
abbrev pub Anchored : (test : ℕ → Bool) (image : List ℕ) (word offset : ℕ) → Type 0
Anchored test image word offset = (q : ℕ) → test q ≡ true
    → (q + offset < length image - 1) × (word_at image (q + offset) ≡ word)

-- nothing passes between two places of the word
none-between : (test : ℕ → Bool) (image : List ℕ) (word offset from next : ℕ) → Anchored test image word offset
    → IsNext image word from next → (q : ℕ) → from ≤ q + offset → q + offset < next → test q ≡ false
none-between test image word offset from next anchored is q a b =
    false_from_ne_true (test q) (λ t. is.between (q + offset) a b (anchored q t).1)

-- before the first one nothing was found
pub follow-first : (test : ℕ → Bool) (image : List ℕ) (word offset next : ℕ) → Anchored test image word offset
    → IsNext image word 0 next → [] ≡ below test (next - offset)
follow-first test image word offset next anchored is =
    below-skip test 0 (next - offset) (omega arith)
    (λ q a b. none-between test image word offset 0 next anchored is q (omega arith) (omega (arith, b)))

-- from one to the next
pub follow-more : (test : ℕ → Bool) (image : List ℕ) (word offset at next : ℕ) (old new : List ℕ)
    → Anchored test image word offset → IsNext image word (at + 1) next → old ≡ below test (at - offset)
    → new ≡ old ++ found_before test at offset → new ≡ below test (next - offset)
follow-more test image word offset at next old new anchored is was added =
    elim (cases_lt at offset) [
      | inl h ↦
          let no-place : (leb offset at && test (at - offset)) ≡ false =
          ap (λ b. b && test (at - offset)) (lt-leb offset at h) in
          added ∙ ap (λ l. old ++ l) (cond-false _ ((at - offset) ∷ []) [] no-place) ∙ append-nil old ∙ was
          ∙ below-skip test (at - offset) (next - offset) (omega (arith, is.behind))
          (λ q a b. none-between test image word offset (at + 1) next anchored is q (omega (arith, h))
          (omega (arith, b)))
      | inr h ↦
          let place : (leb offset at && test (at - offset)) ≡ test (at - offset) =
          ap (λ b. b && test (at - offset)) (le-leb offset at h) in
          added ∙ ap (λ b. old ++ cond b ((at - offset) ∷ []) []) place
          ∙ ap (λ l. l ++ found_at test (at - offset)) was ∙ sym (below-more test (at - offset))
          ∙ below-skip test (at - offset + 1) (next - offset) (omega (arith, is.behind, h))
          (λ q a b. none-between test image word offset (at + 1) next anchored is q (omega (arith, a, h))
          (omega (arith, b)))
    ]

-- behind the last one all were found
pub follow-all : (test : ℕ → Bool) (image : List ℕ) (word offset at limit : ℕ) (found : List ℕ)
    → Anchored test image word offset → found ≡ below test (at - offset) → length found ≤ limit
    → length image - 1 ≤ at → at ≤ length image - 1 → found ≡ take limit (below test (length image))
follow-all test image word offset at limit found anchored is few h k =
    first-all test (at - offset) (length image) limit found is few (omega (arith, k))
    (λ q a b. false_from_ne_true (test q) (λ t. let w = (anchored q t).0 in omega (arith, w, a, h)))
