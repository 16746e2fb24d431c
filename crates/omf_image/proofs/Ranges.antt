-- Filters over ranges of positions.
use Rattle.std.proofs.Common.{◌≡◌, ℕ, zero, suc, ◌+◌, ◌<◌, ◌≤◌, Bool, false, cond, eqb, List, [], ◌∷◌, ◌++◌, filter}
use Rattle.std.proofs.Common.{length, get_or, refl, ap, ◌∙◌, arith, add-one, inl, inr, eq-eqb}
use Rattle.std.proofs.lemmas.Bool.{cases_eq, cond-true, cond-false, ne_eqb}
use Rattle.std.proofs.lemmas.List.Elements.{filter-append}
use Rattle.std.specs.List.{range_with_len}
use Rattle.omf_image.specs.Records.{hits}
use Rattle.omf_image.specs.inside.Marks.{IsPlain}

pub range_more : (a n : ℕ) → range_with_len a (suc n) ≡ range_with_len a n ++ (a + n) ∷ []
range_more a zero = ap (λ (k : ℕ). k ∷ []) (omega arith)
range_more a (suc n) =
    ap (λ (l : List ℕ). a ∷ l) (range_more (a + 1) n ∙ ap (λ (k : ℕ). range_with_len (a + 1) n ++ k ∷ []) (omega arith))

-- one position more
pub filter_more : (p : ℕ → Bool) (n : ℕ)
    → filter p (range_with_len 0 (n + 1)) ≡ filter p (range_with_len 0 n) ++ cond (p n) (n ∷ []) []
filter_more p n =
    ap (λ (k : ℕ). filter p (range_with_len 0 k)) (add-one n)
    ∙ ap (filter p) (range_more 0 n)
    ∙ filter-append p (range_with_len 0 n) ((0 + n) ∷ [])
    ∙ ap (λ (k : ℕ). filter p (range_with_len 0 n) ++ cond (p k) (k ∷ []) []) (omega arith)

pub filter_none : (p : ℕ → Bool) (a n : ℕ) → ((i : ℕ) → a ≤ i → i < a + n → p i ≡ false)
    → filter p (range_with_len a n) ≡ []
filter_none p a zero h = refl
filter_none p a (suc n) h =
    cond-false (p a) (a ∷ filter p (range_with_len (a + 1) n)) (filter p (range_with_len (a + 1) n))
    (h a (omega arith) (omega arith))
    ∙ filter_none p (a + 1) n (λ i l m. h i (omega arith) (omega arith))

filter_one : (p : ℕ → Bool) (o a n : ℕ) → a ≤ o → o < a + n → ((i : ℕ) → a ≤ i → i < a + n → p i ≡ eqb i o)
    → filter p (range_with_len a n) ≡ o ∷ []
filter_one p o a zero h k e = absurd (omega (arith, h, k))
filter_one p o a (suc n) h k e =
    elim (cases_eq a o) [
      | inl q ↦
          cond-true (p a) (a ∷ filter p (range_with_len (a + 1) n)) (filter p (range_with_len (a + 1) n))
          (e a (omega arith) (omega arith) ∙ eq-eqb a o q)
          ∙ ap (λ (l : List ℕ). a ∷ l)
          (filter_none p (a + 1) n (λ i l m. e i (omega arith) (omega arith) ∙ ne_eqb i o (omega arith)))
          ∙ ap (λ (j : ℕ). j ∷ []) q
      | inr q ↦
          cond-false (p a) (a ∷ filter p (range_with_len (a + 1) n)) (filter p (range_with_len (a + 1) n))
          (e a (omega arith) (omega arith) ∙ ne_eqb a o q)
          ∙ filter_one p o (a + 1) n (omega (arith, h, q)) (omega (arith, k)) (λ i l m. e i (omega arith) (omega arith))
    ]

plain_at : (stored : List ℕ) (o i : ℕ) → IsPlain stored → i < length stored → eqb (get_or stored i 0) o ≡ eqb i o
plain_at stored o i h k = ap (λ (n : ℕ). eqb n o) (h i k)

pub plain_hit : (stored : List ℕ) (o : ℕ) → IsPlain stored → o < length stored → hits o stored ≡ o ∷ []
plain_hit stored o h k =
    filter_one (λ i. eqb (get_or stored i 0) o) o 0 (length stored) (omega arith) (omega (arith, k))
    (λ i l m. plain_at stored o i h (omega (arith, m)))

pub plain_miss : (stored : List ℕ) (o : ℕ) → IsPlain stored → length stored ≤ o → hits o stored ≡ []
plain_miss stored o h k =
    filter_none (λ i. eqb (get_or stored i 0) o) 0 (length stored)
    (λ i l m. plain_at stored o i h (omega (arith, m)) ∙ ne_eqb i o (omega (arith, m, k)))
