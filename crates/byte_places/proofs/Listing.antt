-- Places that pass a test, listed up to one.
use Rattle.std.proofs.Common.{◌≡◌, ℕ, zero, suc, ◌+◌, ◌-◌, ◌<◌, ◌≤◌, Bool, true, false, cond, List, [], ◌∷◌, ◌++◌}
use Rattle.std.proofs.Common.{length, take, filter, sym, ap, ◌∙◌, arith, append-nil, map-id, take_at}
use Rattle.std.proofs.Common.{length-append, append_assoc, take_all, zero-add}
use Rattle.std.proofs.lemmas.Bool.{cond-true, cond-false, cond_both}
use Rattle.std.proofs.lemmas.List.FromFn.{filter_of_map_range_with_len_more}
use Rattle.std.specs.List.{range_with_len}

-- those below a place
abbrev pub below : (test : ℕ → Bool) (place : ℕ) → List ℕ
below test place = filter test (range_with_len 0 place)

pub below-more : (test : ℕ → Bool) (x : ℕ) → below test (x + 1) ≡ below test x ++ cond (test x) (x ∷ []) []
below-more test x =
    ap (filter test) (sym (map-id (range_with_len 0 (x + 1))))
    ∙ filter_of_map_range_with_len_more test (λ y. y) 0 x x (zero-add x)
    ∙ ap (λ l. filter test l ++ cond (test x) (x ∷ []) []) (map-id (range_with_len 0 x))

-- one that passes
pub below-yes : (test : ℕ → Bool) (x : ℕ) → test x ≡ true → below test x ++ x ∷ [] ≡ below test (x + 1)
below-yes test x holds = sym (below-more test x ∙ ap (λ l. below test x ++ l) (cond-true (test x) (x ∷ []) [] holds))

-- one that doesn't
pub below-no : (test : ℕ → Bool) (x : ℕ) → test x ≡ false → below test x ≡ below test (x + 1)
below-no test x fails =
    sym (below-more test x ∙ ap (λ l. below test x ++ l) (cond-false (test x) (x ∷ []) [] fails)
    ∙ append-nil (below test x))

-- some that don't
skip-some : (test : ℕ → Bool) (x n : ℕ) → ((q : ℕ) → x ≤ q → q < x + n → test q ≡ false)
    → below test x ≡ below test (x + n)
skip-some test x zero none = ap (below test) (omega arith)
skip-some test x (suc n) none =
    skip-some test x n (λ q a b. none q a (omega (arith, b)))
    ∙ below-no test (x + n) (none (x + n) (omega arith) (omega arith)) ∙ ap (below test) (omega arith)

pub below-skip : (test : ℕ → Bool) (x y : ℕ) → x ≤ y → ((q : ℕ) → x ≤ q → q < y → test q ≡ false)
    → below test x ≡ below test y
below-skip test x y h none =
    let whole : x + (y - x) ≡ y = omega (arith, h) in
    skip-some test x (y - x) (λ q a b. none q a (omega (arith, b, whole))) ∙ ap (below test) whole

-- those below a place begin with those below a lower one
begins-some : (test : ℕ → Bool) (x n : ℕ) → (rest : List ℕ) × (below test (x + n) ≡ below test x ++ rest)
begins-some test x zero =
    let nothing : List ℕ = [] in (nothing, ap (below test) (omega arith) ∙ sym (append-nil (below test x)))
begins-some test x (suc n) =
    let before = begins-some test x n in
    let last : List ℕ = cond (test (x + n)) ((x + n) ∷ []) [] in (
      before.0 ++ last,
      ap (below test) (omega arith) ∙ below-more test (x + n) ∙ ap (λ l. l ++ last) before.1
          ∙ append_assoc (below test x) before.0 last,
    )

pub below-begins : (test : ℕ → Bool) (x y : ℕ) → x ≤ y → (rest : List ℕ) × (below test y ≡ below test x ++ rest)
below-begins test x y h =
    let some = begins-some test x (y - x) in
    (some.0, ap (below test) (omega (arith, h)) ∙ some.1)

-- ---- the first of them

-- one was looked at
pub looked-few : (found : Bool) (x limit : ℕ) (old new : List ℕ) → new ≡ old ++ cond found (x ∷ []) []
    → length old < limit → length new ≤ limit
looked-few found x limit old new is few =
    cond_both found (x ∷ []) [] (λ l. new ≡ old ++ l → length new ≤ limit)
    (λ _ e. let n = ap length e ∙ length-append old (x ∷ []) in omega (arith, n, few))
    (λ _ e. let n = ap length e ∙ length-append old [] in omega (arith, n, few)) is

-- all were found
pub first-all : (test : ℕ → Bool) (x y limit : ℕ) (found : List ℕ) → found ≡ below test x → length found ≤ limit → x ≤ y
    → ((q : ℕ) → x ≤ q → q < y → test q ≡ false) → found ≡ take limit (below test y)
first-all test x y limit found is few h none =
    sym (take_all limit found few) ∙ ap (take limit) (is ∙ below-skip test x y h none)

-- as many as are wanted
pub first-many : (test : ℕ → Bool) (x y limit : ℕ) (found : List ℕ) → found ≡ below test x → length found ≤ limit
    → limit ≤ length found → x ≤ y → found ≡ take limit (below test y)
first-many test x y limit found is few many h =
    let begins = below-begins test x y h in
    sym (ap (take limit) (begins.1 ∙ ap (λ l. l ++ begins.0) (sym is))
    ∙ take_at found begins.0 limit (omega (arith, few, many)))
