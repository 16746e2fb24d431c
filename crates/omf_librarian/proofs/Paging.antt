-- Pages: how many members take, and the bytes that are so many pages.
use Rattle.std.proofs.Common.{◌≡◌, ◌≢◌, ℕ, zero, suc, ◌+◌, ◌-◌, ◌*◌, ◌/◌, ◌%◌, ◌<◌, ◌≤◌, ◌⊎◌, inl, inr, min, Bool, true}
use Rattle.std.proofs.Common.{false}
use Rattle.std.proofs.Common.{List, [], ◌∷◌, ◌++◌, length, get_or, take, drop, map, replicate, cond, leb, find, Some}
use Rattle.std.proofs.Common.{None, is_some, Ok}
use Rattle.std.proofs.Common.{refl, sym, ap, ◌∙◌, arith, length-append, mul-add, mul_comm, mul-one, add_assoc}
use Rattle.std.specs.declared.option.Option.{Option}
use Rattle.std.specs.Int.{div_ceil, next_multiple_of}
use Rattle.std.specs.List.{flat_map}
use Rattle.std.proofs.lemmas.Bool.{cases_eq, cases_lt, le-leb, leb-true, lt-leb}
use Rattle.std.proofs.lemmas.List.{drop_more, flat_map_more, length-replicate, map_more}
use Rattle.std.proofs.lemmas.Nat.{div-add-mod', mod-mul-add, mod_below, mul-le}
use Rattle.omf_librarian.specs.Naming.{pages_of}
use Rattle.omf_librarian.specs.Pages.{has_pages, page_behind}
use Rattle.omf_librarian.specs.Writing.{members_bytes, padded}

-- ---- multiples

rest_by : (a b r : ℕ) → 0 < b → r < b → a / b * b + r ≡ a → (r ≡ 0) ⊎ (r ≡ 0 → ⊥)
    → a + (b - r) % b ≡ b * (a / b + min 1 r)
rest_by a b r some small whole (inl none) =
    let m : (b - r) % b ≡ 0 =
    ap (λ k. k % b) (let e : b - r ≡ 1 * b + 0 = omega arith in e) ∙ mod-mul-add 1 b 0 some in
    let q : a / b + min 1 r ≡ a / b = omega (arith, none) in
    let p : a / b * b ≡ b * (a / b) = mul_comm (a / b) b in
    let t : a ≡ b * (a / b) = omega (arith, whole, none, p) in
    ap (λ k. a + k) m ∙ (let e : a + 0 ≡ a = omega arith in e) ∙ t ∙ ap (λ k. b * k) (sym q)
rest_by a b r some small whole (inr other) =
    let m : (b - r) % b ≡ b - r =
    ap (λ k. k % b) (let e : b - r ≡ 0 * b + (b - r) = omega arith in e)
    ∙ mod-mul-add 0 b (b - r) (omega (arith, some, small, other)) in
    let q : a / b + min 1 r ≡ a / b + 1 = omega (arith, other) in
    let p : a / b * b ≡ b * (a / b) = mul_comm (a / b) b in
    let t : b * (a / b + 1) ≡ b * (a / b) + b = mul-add b (a / b) 1 ∙ ap (λ k. b * (a / b) + k) (mul-one b) in
    ap (λ k. a + k) m ∙ (let e : a + (b - r) ≡ b * (a / b) + b = omega (arith, whole, p, small) in e) ∙ sym t
    ∙ ap (λ k. b * k) (sym q)

pub next_is : (a b : ℕ) → 0 < b → next_multiple_of a b ≡ b * div_ceil a b
next_is a b some =
    rest_by a b (a % b) some (mod_below a b some) (div-add-mod' a b) (cases_eq (a % b) 0)

pub next_least : (a b : ℕ) → a ≤ next_multiple_of a b
next_least a b = omega arith

pub next_most : (a b : ℕ) → 0 < b → next_multiple_of a b < a + b
next_most a b some = omega (arith, mod_below (b - a % b) b some)

-- ---- pages of members

pub behind_least : (size page : ℕ) (ms : List (List ℕ)) → page ≤ page_behind size page ms
behind_least size page [] = omega arith
behind_least size page (m ∷ ms) = omega (arith, behind_least size (page + pages_of size m) ms)

pub pages_fit : (ms : List (List ℕ)) (size : ℕ) → has_pages ms size ≡ true → page_behind size 1 ms ≤ 65535
unfolding has_pages
pages_fit ms size is = leb-true (page_behind size 1 ms) 65535 is

pub pages_told : (ms : List (List ℕ)) (size page : ℕ) → page ≤ 65535 → page ≡ page_behind size 1 ms
    → Some page ≡ cond (has_pages ms size) (Some (page_behind size 1 ms)) None
unfolding has_pages
pages_told ms size page few is =
    rw (le-leb (page_behind size 1 ms) 65535 (omega (arith, is, few))) (ap Some is)

pub pages_many : (ms : List (List ℕ)) (size page : ℕ) → 65535 < page → page ≤ page_behind size 1 ms
    → ◌≡◌ {A = Option ℕ} None (cond (has_pages ms size) (Some (page_behind size 1 ms)) None)
unfolding has_pages
pages_many ms size page many is = rw (lt-leb (page_behind size 1 ms) 65535 (omega (arith, is, many))) refl

pub told_by : (b : Bool) (n : ℕ) (o : Option ℕ) → o ≡ cond b (Some n) None → is_some o ≡ b
told_by true n o e = ap is_some e
told_by false n o e = ap is_some e

pub find_next : (test : ℕ → Bool) (xs : List ℕ) (i : ℕ) → i < length xs → test (get_or xs i 0) ≡ false
    → find test (drop i xs) ≡ find test (drop (i + 1) xs)
find_next test xs i within other =
    ap (find test) (drop_more xs i 0 within)
    ∙ ap (λ t. cond t (Some (get_or xs i 0)) (find test (drop (i + 1) xs))) other

pub find_here : (test : ℕ → Bool) (xs : List ℕ) (i : ℕ) → i < length xs → test (get_or xs i 0) ≡ true
    → find test (drop i xs) ≡ Some (get_or xs i 0)
find_here test xs i within is =
    ap (find test) (drop_more xs i 0 within)
    ∙ ap (λ t. cond t (Some (get_or xs i 0)) (find test (drop (i + 1) xs))) is

-- ---- bytes

pub padded_size : (size : ℕ) (m : List ℕ) → 0 < size → length (padded size m) ≡ size * pages_of size m
padded_size size m some =
    let n = length m in
    length-append m (replicate (next_multiple_of n size - n) 0)
    ∙ ap (λ k. n + k) (length-replicate (next_multiple_of n size - n) 0)
    ∙ (let e : n + (next_multiple_of n size - n) ≡ next_multiple_of n size = omega arith in e)
    ∙ next_is n size some

members_from : (size page : ℕ) (ms : List (List ℕ)) → 0 < size
    → size * page + length (flat_map (padded size) ms) ≡ size * page_behind size page ms
members_from size page [] some = omega arith
members_from size page (m ∷ ms) some =
    let rest = length (flat_map (padded size) ms) in
    ap (λ k. size * page + k) (length-append (padded size m) (flat_map (padded size) ms))
    ∙ ap (λ k. size * page + (k + rest)) (padded_size size m some)
    ∙ sym (add_assoc (size * page) (size * pages_of size m) rest)
    ∙ ap (λ k. k + rest) (sym (mul-add size page (pages_of size m)))
    ∙ members_from size (page + pages_of size m) ms some

pub members_size : (size : ℕ) (ms : List (List ℕ)) → 0 < size
    → size + length (members_bytes size ms) ≡ size * page_behind size 1 ms
unfolding members_bytes
members_size size ms some =
    ap (λ k. k + length (flat_map (padded size) ms)) (sym (mul-one size)) ∙ members_from size 1 ms some

pub end_most : (size behind : ℕ) → size ≤ 32768 → behind ≤ 65535 → size * behind ≤ 2147450880
end_most size behind few pages = mul-le size behind 32768 65535 few pages

-- ---- a loop over modules

pub drop_read : {X : Type 0} (xs : List X) (i : ℕ) (x : X) → i < length xs → x ≡ get_or xs i x
    → drop i xs ≡ x ∷ drop (i + 1) xs
drop_read xs i x within is = drop_more xs i x within ∙ ap (λ y. y ∷ drop (i + 1) xs) (sym is)

pub behind_step : {X : Type 0} (f : X → List ℕ) (xs : List X) (i : ℕ) (x : X) (size page more : ℕ) → i < length xs
    → x ≡ get_or xs i x → more ≡ pages_of size (f x)
    → page_behind size (page + more) (map f (drop (i + 1) xs)) ≡ page_behind size page (map f (drop i xs))
behind_step f xs i x size page more within is e =
    ap (λ k. page_behind size (page + k) (map f (drop (i + 1) xs))) e
    ∙ ap (λ l. page_behind size page (map f l)) (sym (drop_read xs i x within is))

pub members_none : (size : ℕ) → members_bytes size [] ≡ []
unfolding members_bytes
members_none size = refl

pub members_more : {X : Type 0} (f : X → List ℕ) (xs : List X) (i : ℕ) (x : X) (size : ℕ) → i < length xs
    → x ≡ get_or xs i x
    → members_bytes size (map f (take i xs)) ++ padded size (f x) ≡ members_bytes size (map f (take (i + 1) xs))
unfolding members_bytes
members_more f xs i x size within is =
    flat_map_more (padded size) [] (map f (take i xs)) (f x)
    ∙ ap (λ y. flat_map (padded size) (map f (take i xs) ++ f y ∷ [])) is
    ∙ ap (flat_map (padded size)) (sym (map_more f xs i x within))
