-- Names of files without folders and extensions, looked through from their ends.
use Rattle.std.proofs.Common.{◌≡◌, ◌≢◌, ℕ, zero, suc, ◌+◌, ◌-◌, ◌<◌, ◌≤◌, ◌⊎◌, inl, inr, Bool, true, false, not, ◌&&◌}
use Rattle.std.proofs.Common.{◌||◌}
use Rattle.std.proofs.Common.{List, [], ◌∷◌, length, get_or, take, drop, cond, eqb, refl, sym, ap, ◌∙◌, arith}
use Rattle.std.specs.List.{list_any}
use Rattle.std.proofs.lemmas.Bool.{or_from, or_left, or_parts, or_right}
use Rattle.std.proofs.lemmas.List.{drop_more}
use Rattle.omf_librarian.specs.Modules.{ends_folder, without_extension, without_folder}

abbrev pub is_dot : ℕ → Bool
is_dot c = eqb c 0x2E

-- one place less
pub none_more : (test : ℕ → Bool) (xs : List ℕ) (at : ℕ) → at < length xs → test (get_or xs at 0) ≡ false
    → list_any test (drop (at + 1) xs) ≡ false → list_any test (drop at xs) ≡ false
none_more test xs at within here behind =
    ap (list_any test) (drop_more xs at 0 within)
    ∙ or_from (test (get_or xs at 0)) (list_any test (drop (at + 1) xs)) here behind

any_at : (test : ℕ → Bool) (xs : List ℕ) (at : ℕ) → at < length xs → test (get_or xs at 0) ≡ true
    → list_any test xs ≡ true
any_at test [] at within is = absurd (omega arith)
any_at test (x ∷ xs) zero within is = or_left (test x) (list_any test xs) is
any_at test (x ∷ xs) (suc at) within is =
    or_right' (test x) (list_any test xs) (any_at test xs at (omega arith) is)
  where
    or_right' : (a b : Bool) → b ≡ true → (a || b) ≡ true
    or_right' true b h = refl
    or_right' false b h = h

-- no folder at all
pub no_folder : (xs : List ℕ) → list_any ends_folder xs ≡ false → without_folder xs ≡ xs
no_folder [] none = refl
no_folder (x ∷ xs) none = ap (λ t. cond t (without_folder xs) (x ∷ xs)) none

-- the last one ends before a place
pub folder_at : (xs : List ℕ) (at : ℕ) → at < length xs → ends_folder (get_or xs at 0) ≡ true
    → list_any ends_folder (drop (at + 1) xs) ≡ false → without_folder xs ≡ drop (at + 1) xs
folder_at [] at within is none = absurd (omega arith)
folder_at (x ∷ xs) zero within is none =
    ap (λ t. cond t (without_folder xs) (x ∷ xs)) (any_at ends_folder (x ∷ xs) 0 within is) ∙ no_folder xs none
folder_at (x ∷ xs) (suc at) within is none =
    let e : suc at + 1 ≡ suc (at + 1) = omega arith in
    let none' : list_any ends_folder (drop (at + 1) xs) ≡ false =
    ap (λ n. list_any ends_folder (drop n (x ∷ xs))) (sym e) ∙ none in
    ap (λ t. cond t (without_folder xs) (x ∷ xs)) (any_at ends_folder (x ∷ xs) (suc at) within is)
    ∙ folder_at xs at (omega arith) is none' ∙ ap (λ n. drop n (x ∷ xs)) (sym e)

-- no dot at all
pub no_dot : (xs : List ℕ) → list_any is_dot xs ≡ false → without_extension xs ≡ xs
no_dot [] none = refl
no_dot (x ∷ xs) none =
    let parts = or_parts (is_dot x) (list_any is_dot xs) none in
    ap (λ t. cond (t && not (list_any is_dot xs)) [] (x ∷ without_extension xs)) parts.0
    ∙ ap (λ l. x ∷ l) (no_dot xs parts.1)

-- the last one stands there
pub dot_at : (xs : List ℕ) (at : ℕ) → at < length xs → is_dot (get_or xs at 0) ≡ true
    → list_any is_dot (drop (at + 1) xs) ≡ false → without_extension xs ≡ take at xs
dot_at [] at within is none = absurd (omega arith)
dot_at (x ∷ xs) zero within is none =
    ap (λ t. cond (t && not (list_any is_dot xs)) [] (x ∷ without_extension xs)) is
    ∙ ap (λ t. cond (not t) [] (x ∷ without_extension xs)) none
dot_at (x ∷ xs) (suc at) within is none =
    let e : suc at + 1 ≡ suc (at + 1) = omega arith in
    let none' : list_any is_dot (drop (at + 1) xs) ≡ false =
    ap (λ n. list_any is_dot (drop n (x ∷ xs))) (sym e) ∙ none in
    ap (λ t. cond (is_dot x && not t) [] (x ∷ without_extension xs)) (any_at is_dot xs at (omega arith) is)
    ∙ both_false (is_dot x) (x ∷ without_extension xs)
    ∙ ap (λ l. x ∷ l) (dot_at xs at (omega arith) is none')
  where
    both_false : (t : Bool) (l : List ℕ) → cond (t && false) [] l ≡ l
    both_false true l = refl
    both_false false l = refl
