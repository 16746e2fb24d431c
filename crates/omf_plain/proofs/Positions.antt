-- Where a name stands first, by one name more.
use Rattle.std.proofs.Common.{◌≡◌, ℕ, ◌+◌, Bool, true, false, if◌then◌else◌, List, [], ◌∷◌, ◌++◌, length, refl, sym}
use Rattle.std.proofs.Common.{ap, ◌∙◌, Option, None, Some, arith}
use Rattle.std.proofs.lemmas.List.{map_push}
use Rattle.std.specs.Borrow.{Bor}
use Rattle.std.specs.List.{position_from}
use Rattle.std.specs.Option.{option_or}
use Rattle.omf_library.specs.Names.{texts}

abbrev one_more : (List ℕ → Bool) → ℕ → List (List ℕ) → List ℕ → Option ℕ
one_more test n xs x = option_or (position_from test n xs) (if test x then Some (n + length xs) else None)

push : (test : List ℕ → Bool) (n : ℕ) (xs : List (List ℕ)) (x : List ℕ)
    → position_from test n (xs ++ x ∷ []) ≡ one_more test n xs x
push test n [] x = go (test x)
  where
    go : (b : Bool) → (if b then Some n else None) ≡ (if b then Some (n + 0) else None)
    go true = ap (λ k. Some k) (omega arith)
    go false = refl
push test n (y ∷ xs) x = go (test y) (push test (n + 1) xs x)
  where
    index : n + 1 + length xs ≡ n + length (y ∷ xs)
    index = omega arith

    go : (b : Bool) → position_from test (n + 1) (xs ++ x ∷ []) ≡ one_more test (n + 1) xs x
        → (if b then Some n else position_from test (n + 1) (xs ++ x ∷ []))
        ≡ option_or (if b then Some n else position_from test (n + 1) xs)
        (if test x then Some (n + length (y ∷ xs)) else None)
    go true e = refl
    go false e =
        e ∙ ap (λ k. option_or (position_from test (n + 1) xs) (if test x then Some k else None)) index

-- of names that lie in memory
pub position_push : (test : List ℕ → Bool) (old new : List (Bor (List ℕ))) (name : Bor (List ℕ)) (found : Option ℕ)
    (is_it : Bool) (index : ℕ) → new ≡ old ++ name ∷ [] → found ≡ position_from test 1 (texts old)
    → is_it ≡ test name.now → index ≡ 1 + length (texts old)
    → option_or found (if is_it then Some index else None) ≡ position_from test 1 (texts new)
position_push test old new name found is_it index more f i n =
    rw (f, i, n, more, map_push (λ (x : Bor (List ℕ)). x.now) old name) (sym (push test 1 (texts old) name.now))
