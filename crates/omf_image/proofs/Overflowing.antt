-- Whether some of a list is so, what is found first in it, and which word of a data record is too small.
use Rattle.std.proofs.Common.{◌≡◌, ℕ, zero, suc, ◌+◌, ◌-◌, ◌<◌, ◌≤◌, ◌||◌, ◌&&◌, Bool, true, false, List, [], ◌∷◌, ◌++◌}
use Rattle.std.proofs.Common.{cond}
use Rattle.std.proofs.Common.{arith, drop, filter, map, zip, length, get_or, slice_get, eqb, refl, ap, ◌∙◌, sym}
use Rattle.std.proofs.Common.{Option, Some, None}
use Rattle.std.proofs.lemmas.List.{drop_all}
use Rattle.std.proofs.lemmas.List.Elements.{filter_map-append}
use Rattle.std.specs.List.{filter_map, list_any, range_with_len}
use Rattle.std.specs.Option.{option_or}
use Rattle.omf_image.specs.declared.reference.Resolved.{Resolved}
use Rattle.omf_image.specs.Overflow.{double_word_at, is_above}
use Rattle.omf_image.specs.Records.{hits}
use Rattle.omf_image.proofs.Meaning.{drop_more, first_of_zip, second_of_zip}

or_left : (a b : Bool) → a ≡ true → (a || b) ≡ true
or_left a b is = ap (λ x. x || b) is

or_right : (a b : Bool) → a ≡ false → (a || b) ≡ b
or_right a b is = ap (λ x. x || b) is

-- the first element is so
pub any_here : {X : Type 0} (p : X → Bool) (front rest : List X) (x : X) (all : Bool) → front ≡ x ∷ rest → p x ≡ true
    → list_any p front ≡ all → true ≡ all
any_here p front rest x all split is some =
    sym (or_left (p x) (list_any p rest) is) ∙ sym (ap (list_any p) split) ∙ some

-- it isn't
pub any_later : {X : Type 0} (p : X → Bool) (front rest : List X) (x : X) (all : Bool) → front ≡ x ∷ rest
    → p x ≡ false → list_any p front ≡ all → list_any p rest ≡ all
any_later p front rest x all split is some =
    sym (or_right (p x) (list_any p rest) is) ∙ sym (ap (list_any p) split) ∙ some

-- some of those that pass a test, as they are seen
any_filtered : {X Y : Type 0} (p : Y → Bool) (f : X → Y) (test : X → Bool) (xs : List X)
    → list_any p (map f (filter test xs)) ≡ list_any (λ x. test x && p (f x)) xs
any_filtered p f test [] = refl
any_filtered p f test (x ∷ xs) = go (test x) (any_filtered p f test xs)
  where
    go : (b : Bool) → list_any p (map f (filter test xs)) ≡ list_any (λ x. test x && p (f x)) xs
        → list_any p (map f (cond b (x ∷ filter test xs) (filter test xs)))
        ≡ ((b && p (f x)) || list_any (λ x. test x && p (f x)) xs)
    go true rest = ap (λ r. p (f x) || r) rest
    go false rest = rest

-- a byte was stored at a place, and the sum at the word that begins with it has more than 16 bits
abbrev pub above_at : Resolved → (offset : ℕ) → (places bytes : List ℕ) → ℕ → Bool
above_at r offset places bytes i = eqb (get_or places i 0) offset && is_above r (double_word_at bytes i)

pub numbers_above : (r : Resolved) (offset : ℕ) (places bytes : List ℕ) → length bytes ≡ length places
    → list_any (is_above r) (map (double_word_at (map (λ (p : ℕ × ℕ). p.1) (zip places bytes)))
    (hits offset (map (λ (p : ℕ × ℕ). p.0) (zip places bytes))))
    ≡ list_any (above_at r offset places bytes) (range_with_len 0 (length places))
numbers_above r offset places bytes same =
    ap (λ bs. list_any (is_above r) (map (double_word_at bs) (hits offset (map (λ (p : ℕ × ℕ). p.0) (zip places bytes)))))
    (second_of_zip places bytes (sym same))
    ∙ ap (λ ps. list_any (is_above r) (map (double_word_at bytes) (hits offset ps))) (first_of_zip places bytes (sym same))
    ∙ any_filtered (is_above r) (double_word_at bytes) (λ i. eqb (get_or places i 0) offset)
    (range_with_len 0 (length places))

-- the positions from one on
pub range_next : (a n : ℕ) → a < n → range_with_len a (n - a) ≡ a ∷ range_with_len (a + 1) (n - (a + 1))
range_next a n h = let e : n - a ≡ suc (n - (a + 1)) = omega (arith, h) in ap (range_with_len a) e

pub range_past : (a n : ℕ) → n ≤ a → range_with_len a (n - a) ≡ []
range_past a n h = let e : n - a ≡ 0 = omega (arith, h) in ap (range_with_len a) e

pub both_true : (a b : Bool) → a ≡ true → b ≡ true → (a && b) ≡ true
both_true a b is it = ap (λ x. x && b) is ∙ it

pub first_false : (a b : Bool) → a ≡ false → (a && b) ≡ false
first_false a b is = ap (λ x. x && b) is

pub second_false : (a b : Bool) → a ≡ true → b ≡ false → (a && b) ≡ false
second_false a b is it = ap (λ x. x && b) is ∙ it

-- ---- a word that has no room

-- all elements are so counted, or some are so
or_each : {X : Type 0} (p : X → Bool) (all : Bool) (xs : List X)
    → list_any (λ x. all || p x) xs ≡ (list_any (λ x. true) xs && (all || list_any p xs))
or_each p all [] = refl
or_each p true (x ∷ xs) = refl
or_each p false (x ∷ xs) = refl

-- there is one that passes a test, as it is seen
some_filtered : {X Y : Type 0} (f : X → Y) (test : X → Bool) (xs : List X)
    → list_any (λ y. true) (map f (filter test xs)) ≡ list_any test xs
some_filtered f test [] = refl
some_filtered f test (x ∷ xs) = go (test x) (some_filtered f test xs)
  where
    go : (b : Bool) → list_any (λ y. true) (map f (filter test xs)) ≡ list_any test xs
        → list_any (λ y. true) (map f (cond b (x ∷ filter test xs) (filter test xs))) ≡ (b || list_any test xs)
    go true rest = refl
    go false rest = rest

-- a test of the elements at the positions from one on
any_from : (q : ℕ → Bool) (xs : List ℕ) (i n : ℕ) → i + n ≡ length xs
    → list_any (λ k. q (get_or xs k 0)) (range_with_len i n) ≡ list_any q (drop i xs)
any_from q xs i zero h = sym (ap (list_any q) (drop_all i xs (omega (arith, h))))
any_from q xs i (suc n) h =
    ap (λ b. q (get_or xs i 0) || b) (any_from q xs (i + 1) n (omega (arith, h)))
    ∙ sym (ap (list_any q) (drop_more xs i 0 (omega (arith, h))))

-- a word stands where a byte was stored
number_there : (f : ℕ → ℕ) (offset : ℕ) (places bytes : List ℕ) → length bytes ≡ length places
    → list_any (λ w. true) (map f (hits offset (map (λ (p : ℕ × ℕ). p.0) (zip places bytes))))
    ≡ list_any (λ place. eqb place offset) places
number_there f offset places bytes same =
    ap (λ ps. list_any (λ w. true) (map f (hits offset ps))) (first_of_zip places bytes (sym same))
    ∙ some_filtered f (λ i. eqb (get_or places i 0) offset) (range_with_len 0 (length places))
    ∙ any_from (λ place. eqb place offset) places 0 (length places) (omega arith)

-- it has no room where it is shared, or where its sum is too great
pub without_room : (r : Resolved) (offset : ℕ) (shared : Bool) (places bytes : List ℕ) → length bytes ≡ length places
    → list_any (λ w. shared || is_above r w) (map (double_word_at (map (λ (p : ℕ × ℕ). p.1) (zip places bytes)))
    (hits offset (map (λ (p : ℕ × ℕ). p.0) (zip places bytes))))
    ≡ (list_any (λ place. eqb place offset) places
    && (shared || list_any (is_above r) (map (double_word_at (map (λ (p : ℕ × ℕ). p.1) (zip places bytes)))
    (hits offset (map (λ (p : ℕ × ℕ). p.0) (zip places bytes))))))
without_room r offset shared places bytes same =
    let f = double_word_at (map (λ (p : ℕ × ℕ). p.1) (zip places bytes)) in
    let words = map f (hits offset (map (λ (p : ℕ × ℕ). p.0) (zip places bytes))) in
    or_each (is_above r) shared words
    ∙ ap (λ there. there && (shared || list_any (is_above r) words)) (number_there f offset places bytes same)

-- ---- what is found first

first_joined : {X : Type 0} (xs ys : List X) → slice_get (xs ++ ys) 0 ≡ option_or (slice_get xs 0) (slice_get ys 0)
first_joined [] ys = refl
first_joined (x ∷ xs) ys = refl

-- it stands in the first part
pub found_here : {X Y : Type 0} (f : X → Option Y) (front first rest : List X) (y : Y) (all : Option Y)
    → front ≡ first ++ rest → slice_get (filter_map f first) 0 ≡ Some y → slice_get (filter_map f front) 0 ≡ all
    → Some y ≡ all
found_here f front first rest y all split is found =
    sym (ap (λ o. option_or o (slice_get (filter_map f rest) 0)) is)
    ∙ sym (first_joined (filter_map f first) (filter_map f rest))
    ∙ sym (ap (λ l. slice_get l 0) (filter_map-append f first rest))
    ∙ sym (ap (λ l. slice_get (filter_map f l) 0) split) ∙ found

-- nothing is found there
pub found_later : {X Y : Type 0} (f : X → Option Y) (front first rest : List X) (all : Option Y)
    → front ≡ first ++ rest → slice_get (filter_map f first) 0 ≡ None → slice_get (filter_map f front) 0 ≡ all
    → slice_get (filter_map f rest) 0 ≡ all
found_later f front first rest all split is found =
    sym (ap (λ o. option_or o (slice_get (filter_map f rest) 0)) is)
    ∙ sym (first_joined (filter_map f first) (filter_map f rest))
    ∙ sym (ap (λ l. slice_get l 0) (filter_map-append f first rest))
    ∙ sym (ap (λ l. slice_get (filter_map f l) 0) split) ∙ found

-- what is found for one element
pub found_at : {X Y : Type 0} (f : X → Option Y) (x : X) (o : Option Y) → f x ≡ o
    → slice_get (filter_map f (x ∷ [])) 0 ≡ o
found_at f x None is = rw is refl
found_at f x (Some y) is = rw is refl
