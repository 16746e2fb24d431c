-- Where a path is parted at its last `/`.
use Rattle.std.proofs.Common.{◌≡◌, ◌≢◌, ℕ, ◌<◌, zero, suc, List, length, get_or, arith}
use Rattle.std.proofs.Common.{MatchOption, None, Option, Some, ap, refl, sym, ◌∙◌, ⊎_elim}
use Rattle.std.proofs.lemmas.Bool.{cases_eq, cond-false, cond-true, eq-eqb, ne_eqb}
use Rattle.std.specs.Path.{rfind_below}

-- a byte that stands nowhere below n isn't found there
none-below : (c : ℕ) (text : List ℕ) (n : ℕ) → ((i : ℕ) → i < n → get_or text i 0 ≢ c) → rfind_below c text n ≡ None
none-below c text zero nowhere = refl
none-below c text (suc n) nowhere =
    cond-false _ _ _ (ne_eqb _ c (nowhere n (omega arith)))
    ∙ none-below c text n (λ i below. nowhere i (omega (arith, below)))

-- one that stands at k and nowhere behind it below n is found at k
last-below : (c : ℕ) (text : List ℕ) (k n : ℕ) → k < n → get_or text k 0 ≡ c
    → ((i : ℕ) → k < i → i < n → get_or text i 0 ≢ c) → rfind_below c text n ≡ Some k
last-below c text k zero below here later = absurd (omega (arith, below))
last-below c text k (suc n) below here later =
    ⊎_elim
    (λ last. cond-true _ _ _ (eq-eqb _ c (ap (λ i. get_or text i 0) (sym last) ∙ here)) ∙ ap (λ i. Some i) (sym last))
    (λ other.
    cond-false _ _ _ (ne_eqb _ c (later n (omega arith) (omega arith)))
    ∙ last-below c text k n (omega arith) here (λ i above under. later i above (omega (arith, under))))
    (cases_eq k n)

-- the last of a byte, by where it stands
pub last-found : (c : ℕ) (text : List ℕ) (r : Option ℕ)
    → MatchOption r ((i : ℕ) → i < length text → get_or text i 0 ≢ c)
    (λ k. (k < length text) × (get_or text k 0 ≡ c) × ((i : ℕ) → k < i → i < length text → get_or text i 0 ≢ c))
    → rfind_below c text (length text) ≡ r
last-found c text None nowhere = none-below c text (length text) nowhere
last-found c text (Some k) (below, here, later) = last-below c text k (length text) below here later
