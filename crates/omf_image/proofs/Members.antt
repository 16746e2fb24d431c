-- The numbers of a list, and the tests that find them.
use Rattle.std.proofs.Common.{◌≡◌, ◌⊎◌, ℕ, zero, suc, ◌+◌, ◌<◌, ◌≤◌, Bool, true, false, cond, List, [], ◌∷◌, ◌++◌, map}
use Rattle.std.proofs.Common.{filter, length, get_or, inl, inr, arith, refl, ap, ◌∙◌, sym}
use Rattle.std.specs.List.{list_any, range_with_len}
use Rattle.std.proofs.lemmas.Bool.{true≢false, cases_eq, or_cases, or_left, or_right}

-- r is one of the numbers
abbrev pub In : ℕ → List ℕ → Type 0
In r [] = ⊥
In r (x ∷ xs) = (r ≡ x) ⊎ In r xs

-- in lists one behind the other
pub In-left : (r : ℕ) (xs ys : List ℕ) → In r xs → In r (xs ++ ys)
In-left r [] ys h = absurd h
In-left r (x ∷ xs) ys h = elim h [ inl e ↦ inl e | inr k ↦ inr (In-left r xs ys k) ]

pub In-right : (r : ℕ) (xs ys : List ℕ) → In r ys → In r (xs ++ ys)
In-right r [] ys h = h
In-right r (x ∷ xs) ys h = inr (In-right r xs ys h)

pub In-cases : (r : ℕ) (xs ys : List ℕ) → In r (xs ++ ys) → In r xs ⊎ In r ys
In-cases r [] ys h = inr h
In-cases r (x ∷ xs) ys h =
    elim h [ inl e ↦ inl (inl e) | inr k ↦ elim (In-cases r xs ys k) [ inl l ↦ inl (inr l) | inr l ↦ inr l ] ]

-- in a list whose numbers a sum was added to
pub In-map : (n r : ℕ) (xs : List ℕ) → In r (map (λ w. n + w) xs) → (w : ℕ) × In w xs × (r ≡ n + w)
In-map n r [] h = absurd h
In-map n r (x ∷ xs) h = elim h [ inl e ↦ (x, inl refl, e) | inr k ↦ let g = In-map n r xs k in (g.0, inr g.1, g.2) ]

pub In-map-from : (n w : ℕ) (xs : List ℕ) → In w xs → In (n + w) (map (λ v. n + v) xs)
In-map-from n w [] h = absurd h
In-map-from n w (x ∷ xs) h = elim h [ inl e ↦ inl (ap (λ (v : ℕ). n + v) e) | inr k ↦ inr (In-map-from n w xs k) ]

-- a test that some number passes
pub any_in : (f : ℕ → Bool) (ws : List ℕ) → list_any f ws ≡ true → (w : ℕ) × In w ws × (f w ≡ true)
any_in f [] h = absurd (true≢false (sym h))
any_in f (w ∷ ws) h = elim (or_cases (f w) (list_any f ws) h) [
  | inl t ↦ (w, inl refl, t)
  | inr t ↦ let g = any_in f ws t in (g.0, inr g.1, g.2)
]

pub any_from : (f : ℕ → Bool) (ws : List ℕ) (w : ℕ) → In w ws → f w ≡ true → list_any f ws ≡ true
any_from f [] w h t = absurd h
any_from f (v ∷ ws) w h t = elim h [
  | inl e ↦ or_left (f v) (list_any f ws) (ap f (sym e) ∙ t)
  | inr k ↦ or_right (f v) (list_any f ws) (any_from f ws w k t)
]

-- numbers of a range that pass a test
in_cond : (b : Bool) (x : ℕ) (xs : List ℕ) (j : ℕ) → In j (cond b (x ∷ xs) xs) → ((j ≡ x) × (b ≡ true)) ⊎ In j xs
in_cond true x xs j (inl e) = inl (e, refl)
in_cond true x xs j (inr h) = inr h
in_cond false x xs j h = inr h

pub in_filter : (p : ℕ → Bool) (a n j : ℕ) → In j (filter p (range_with_len a n)) → (a ≤ j) × (j < a + n) × (p j ≡ true)
in_filter p a zero j h = absurd h
in_filter p a (suc n) j h =
    elim (in_cond (p a) a (filter p (range_with_len (a + 1) n)) j h) [
      | inl e ↦ (omega (arith, e.0), omega (arith, e.0), ap p e.0 ∙ e.1)
      | inr k ↦ let g = in_filter p (a + 1) n j k in (omega (arith, g.0), omega (arith, g.1), g.2)
    ]

-- and has all others that pass
pub filter_has : (p : ℕ → Bool) (a n j : ℕ) → a ≤ j → j < a + n → p j ≡ true → In j (filter p (range_with_len a n))
filter_has p a zero j h l t = absurd (omega (arith, h, l))
filter_has p a (suc n) j h l t =
    elim (cases_eq a j) [
      | inl e ↦ first (p a) (ap p e ∙ t) e
      | inr e ↦ rest (p a) (filter_has p (a + 1) n j (omega (arith, h, e)) (omega (arith, l)) t)
    ]
  where
    first : (b : Bool) → b ≡ true → a ≡ j
        → In j (cond b (a ∷ filter p (range_with_len (a + 1) n)) (filter p (range_with_len (a + 1) n)))
    first true u e = inl (sym e)
    first false u e = cc

    rest : (b : Bool) → In j (filter p (range_with_len (a + 1) n))
        → In j (cond b (a ∷ filter p (range_with_len (a + 1) n)) (filter p (range_with_len (a + 1) n)))
    rest true i = inr i
    rest false i = i

-- a list of numbers has what stands at an index
pub in_index : (xs : List ℕ) (k d : ℕ) → k < length xs → In (get_or xs k d) xs
in_index [] k d h = absurd (omega (arith, h))
in_index (x ∷ xs) zero d h = inl refl
in_index (x ∷ xs) (suc k) d h = inr (in_index xs k d (omega (arith, h)))
