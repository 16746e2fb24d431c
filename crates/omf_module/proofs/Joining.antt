-- Which segments join a group, by marks that are taken away.
use Rattle.std.proofs.Common.{◌≡◌, ℕ, zero, suc, ◌+◌, ◌<◌, ◌≤◌, Bool, true, false, not, ◌&&◌, ◌||◌, List, [], ◌∷◌}
use Rattle.std.proofs.Common.{◌++◌, map, take, set, length, get_or, drop, eqb, Some, refl, sym, ap, subst, ◌∙◌, arith}
use Rattle.std.proofs.Common.{inl, inr, min, Option, None}
use Rattle.std.specs.Prelude.{◌⊎◌}
use Rattle.std.proofs.lemmas.Bool.Decides.{nat_tests}
use Rattle.std.proofs.lemmas.List.Folds.{list_any-append}
use Rattle.std.proofs.lemmas.List.Elements.{filter_map-append}
use Rattle.std.proofs.lemmas.List.{length-map, length-set, take_more, take_min, length-take, length-take-le, take_all}
use Rattle.std.proofs.lemmas.List.{append-nil, drop_all}
use Rattle.std.specs.List.{flat_map, filter_map, enumerate_from, list_any, slice_get, AllByRecursion, cons_option}
use Rattle.std.specs.Bool.{then_some}
use Rattle.std.specs.Option.{option_to_list}
use Rattle.omf_module.specs.Module.{Segment, Group}
use Rattle.omf_module.specs.Grouped.{joins, joining, is_of_class, members, greatest_index}
use Rattle.std.proofs.lemmas.List.FromFn.{length-enumerate_from}
use Rattle.omf_module.specs.inside.Grouping.{unmarked}
use Rattle.std.proofs.lemmas.Option.{slice_get_within, get_or_from_slice_get}
use Rattle.omf_module.proofs.Lists.{enumerate_push, flat_map_push}

pub unmarked-append : (xs ys : List ℕ) (marks : List Bool) → unmarked (xs ++ ys) marks ≡ unmarked ys (unmarked xs marks)
unmarked-append [] ys marks = refl
unmarked-append (x ∷ xs) ys marks = unmarked-append xs ys (set marks x false)

pub length-unmarked : (ns : List ℕ) (marks : List Bool) → length (unmarked ns marks) ≡ length marks
length-unmarked [] marks = refl
length-unmarked (n ∷ ns) marks = length-unmarked ns (set marks n false) ∙ length-set marks n false

-- what is left of a mark
abbrev left : List ℕ → ℕ × Bool → Bool
left numbers (number, mark) = mark && not (list_any (λ n. eqb n number) numbers)

and_false : (b : Bool) → (b && false) ≡ false
and_false true = refl
and_false false = refl

and_true : (b : Bool) → (b && true) ≡ b
and_true true = refl
and_true false = refl

eqb_same : (n : ℕ) → eqb n n ≡ true
eqb_same n = grind (arith, nat_tests)

eqb_other : (m n : ℕ) → (m < n) ⊎ (n < m) → eqb m n ≡ false
eqb_other m n h = elim h [ inl l ↦ grind (arith, nat_tests) | inr l ↦ grind (arith, nat_tests) ]

all_left : (k : ℕ) (xs : List Bool) → xs ≡ map (left []) (enumerate_from k xs)
all_left k [] = refl
all_left k (x ∷ xs) = ap (λ y. y ∷ xs) (sym (and_true x)) ∙ ap (λ ys. (x && true) ∷ ys) (all_left (k + 1) xs)

-- one below all that are left takes none away
left_above : (m : ℕ) (ns : List ℕ) (k : ℕ) (xs : List Bool) → m < k
    → map (left (m ∷ ns)) (enumerate_from k xs) ≡ map (left ns) (enumerate_from k xs)
left_above m ns k [] h = refl
left_above m ns k (x ∷ xs) h =
    ap (λ b. (x && not (b || list_any (λ n. eqb n k) ns)) ∷ map (left (m ∷ ns)) (enumerate_from (k + 1) xs))
    (eqb_other m k (inl h))
    ∙ ap (λ ys. left ns (k, x) ∷ ys) (left_above m ns (k + 1) xs (omega arith))

left_set : (ns : List ℕ) (n k : ℕ) (xs : List Bool)
    → map (left ns) (enumerate_from k (set xs n false)) ≡ map (left ((k + n) ∷ ns)) (enumerate_from k xs)
left_set ns n k [] = refl
left_set ns zero k (x ∷ xs) =
    let same : k ≡ k + zero = omega arith in
    let here : false ≡ left (k ∷ ns) (k, x) =
    sym (ap (λ b. x && not (b || list_any (λ n. eqb n k) ns)) (eqb_same k) ∙ and_false x) in
    let rest = sym (left_above k ns (k + 1) xs (omega arith)) in
    ap (λ b. b ∷ map (left ns) (enumerate_from (k + 1) xs)) here ∙ ap (λ ys. left (k ∷ ns) (k, x) ∷ ys) rest
    ∙ ap (λ m. map (left (m ∷ ns)) (enumerate_from k (x ∷ xs))) same
left_set ns (suc n) k (x ∷ xs) =
    let same : k + 1 + n ≡ k + suc n = omega arith in
    let here : left ns (k, x) ≡ left ((k + suc n) ∷ ns) (k, x) =
    ap (λ b. x && not (b || list_any (λ n. eqb n k) ns)) (sym (eqb_other (k + suc n) k (inr (omega arith)))) in
    let rest =
    left_set ns n (k + 1) xs ∙ ap (λ m. map (left (m ∷ ns)) (enumerate_from (k + 1) xs)) same in
    ap (λ b. b ∷ map (left ns) (enumerate_from (k + 1) (set xs n false))) here
    ∙ ap (λ ys. left ((k + suc n) ∷ ns) (k, x) ∷ ys) rest

unmarked_is : (ns : List ℕ) (xs : List Bool) → unmarked ns xs ≡ map (left ns) (enumerate_from 0 xs)
unmarked_is [] xs = all_left 0 xs
unmarked_is (n ∷ ns) xs =
    let same : 0 + n ≡ n = omega arith in
    unmarked_is ns (set xs n false) ∙ left_set ns n 0 xs
    ∙ ap (λ m. map (left (m ∷ ns)) (enumerate_from 0 xs)) same

any_of_all : {X Y : Type 0} (p : Y → Bool) (f : X → List Y) (xs : List X)
    → list_any p (flat_map f xs) ≡ list_any (λ x. list_any p (f x)) xs
any_of_all p f [] = refl
any_of_all p f (x ∷ xs) =
    list_any-append p (f x) (flat_map f xs) ∙ ap (λ b. list_any p (f x) || b) (any_of_all p f xs)

left_join : (class : List ℕ) (gs : List Group) (k : ℕ) (ss : List Segment)
    → map (left (flat_map (λ (g : Group). g.members) gs)) (enumerate_from k (map (is_of_class class) ss))
    ≡ map (joins class gs) (enumerate_from k ss)
left_join class gs k [] = refl
left_join class gs k (s ∷ ss) =
    ap (λ b. (is_of_class class s && not b)
    ∷ map (left (flat_map (λ (g : Group). g.members) gs)) (enumerate_from (k + 1) (map (is_of_class class) ss)))
    (any_of_all (λ n. eqb n k) (λ (g : Group). g.members) gs)
    ∙ ap (λ ys. joins class gs (k, s) ∷ ys) (left_join class gs (k + 1) ss)

-- the marks of a class without those of all members join
pub unmarked_join : (class : List ℕ) (gs : List Group) (ss : List Segment)
    → unmarked (flat_map (λ (g : Group). g.members) gs) (map (is_of_class class) ss) ≡ map (joins class gs) (enumerate_from 0 ss)
unmarked_join class gs ss =
    unmarked_is (flat_map (λ (g : Group). g.members) gs) (map (is_of_class class) ss) ∙ left_join class gs 0 ss

-- what is true of each part of the class is true of each member
pub members_all : (P : ℕ → Type 0) (class : List ℕ) (gs : List Group) (k : ℕ) (ss : List Segment)
    → ((i : ℕ) (s : Segment) → slice_get ss i ≡ Some s → is_of_class class s ≡ true → P (k + i))
    → AllByRecursion P (filter_map (λ (number, does). then_some does number)
    (enumerate_from k (map (joins class gs) (enumerate_from k ss))))
members_all P class gs k [] h = tt
members_all P class gs k (s ∷ ss) h =
    let more = λ (i : ℕ) (t : Segment) (e : slice_get ss i ≡ Some t) (c : is_of_class class t ≡ true).
    (let same : k + suc i ≡ k + 1 + i = omega arith in subst P same (h (suc i) t e c)) in
    let rest = members_all P class gs (k + 1) ss more in
    with_head P k (filter_map (λ (number, does). then_some does number)
    (enumerate_from (k + 1) (map (joins class gs) (enumerate_from (k + 1) ss)))) (is_of_class class s)
    (not (list_any (λ (g : Group). list_any (λ n. eqb n k) g.members) gs)) rest
    (λ c. let same : k + 0 ≡ k = omega arith in subst P same (h 0 s refl c))
  where
    with_head : (P : ℕ → Type 0) (k : ℕ) (ms : List ℕ) (a b : Bool) → AllByRecursion P ms → (a ≡ true → P k)
        → AllByRecursion P (cons_option (then_some (a && b) k) ms)
    with_head P k ms true true rest here = (here refl, rest)
    with_head P k ms true false rest here = rest
    with_head P k ms false b rest here = rest

pub get_of_take : {X : Type 0} (n : ℕ) (xs : List X) (i : ℕ) (x : X) → slice_get (take n xs) i ≡ Some x
    → slice_get xs i ≡ Some x
get_of_take zero xs i x e = cc
get_of_take (suc n) [] i x e = e
get_of_take (suc n) (y ∷ ys) zero x e = e
get_of_take (suc n) (y ∷ ys) (suc i) x e = get_of_take n ys i x e

-- the members among one mark more
pub members_more : (xs : List Bool) (i : ℕ) (x : Bool) → i < length xs → x ≡ get_or xs i x
    → members (take (i + 1) xs) ≡ members (take i xs) ++ option_to_list (then_some x i)
members_more xs i x lt at =
    let here : take (i + 1) xs ≡ take i xs ++ x ∷ [] =
    take_more xs i x lt ∙ ap (λ y. take i xs ++ y ∷ []) (sym at) in
    let number : 0 + length (take i xs) ≡ i = omega (arith, length-take-le i xs (omega arith)) in
    let pairs : enumerate_from 0 (take (i + 1) xs) ≡ enumerate_from 0 (take i xs) ++ (i, x) ∷ [] =
    ap (enumerate_from 0) here ∙ enumerate_push 0 (take i xs) x
    ∙ ap (λ n. enumerate_from 0 (take i xs) ++ (n, x) ∷ []) number in
    let chosen = λ (p : ℕ × Bool). then_some p.1 p.0 in
    ap (filter_map chosen) pairs ∙ filter_map-append chosen (enumerate_from 0 (take i xs)) ((i, x) ∷ [])
    ∙ ap (λ ys. members (take i xs) ++ ys) (one (then_some x i))
  where
    one : (o : Option ℕ) → cons_option o [] ≡ option_to_list o
    one None = refl
    one (Some n) = refl

-- the marks without those of one group more
pub unmarked_more : (gs : List Group) (i : ℕ) (x : Group) → slice_get gs i ≡ Some x → (marks : List Bool)
    → unmarked (flat_map (λ (g : Group). g.members) (take (i + 1) gs)) marks
    ≡ unmarked x.members (unmarked (flat_map (λ (g : Group). g.members) (take i gs)) marks)
unmarked_more gs i x e marks =
    let lt = slice_get_within gs i x e in
    let here : take (i + 1) gs ≡ take i gs ++ x ∷ [] =
    take_more gs i x lt ∙ ap (λ y. take i gs ++ y ∷ []) (get_or_from_slice_get gs i x x e) in
    ap (λ hs. unmarked (flat_map (λ (g : Group). g.members) hs) marks) here
    ∙ ap (λ ns. unmarked ns marks) (flat_map_push (λ (g : Group). g.members) (take i gs) x)
    ∙ unmarked-append (flat_map (λ (g : Group). g.members) (take i gs)) x.members marks

-- the front of a list, as long as it may be
pub take_least : {X : Type 0} (n i : ℕ) (xs : List X) → i ≡ min (length xs) n → take i xs ≡ take n xs
take_least n i xs e =
    let same : i ≡ min n (length xs) = omega arith in
    ap (λ k. take k xs) same ∙ take_min n xs

-- no more segments join than a record can name
pub joining_short : (class : List ℕ) (ss : List Segment) (gs : List Group)
    → length (joining class ss gs) ≤ greatest_index
joining_short class ss gs =
    let front = take greatest_index ss in
    omega (
      arith,
      length-map (enumerate_from 0 front) (joins class gs),
      length-enumerate_from 0 front,
      length-take greatest_index ss,
    )

-- marks in a vector, after some were taken away by its slice
pub written_whole : (ns : List ℕ) (slice marks : List Bool) (n : ℕ) → slice ≡ marks → n ≡ length marks
    → take n (unmarked ns slice ++ drop (length (unmarked ns slice)) marks) ≡ unmarked ns marks
written_whole ns slice marks n same size =
    let none : drop (length (unmarked ns slice)) marks ≡ [] =
    drop_all (length (unmarked ns slice)) marks (omega (arith, length-unmarked ns slice, ap length same)) in
    rw (none, append-nil (unmarked ns slice), same)
    (take_all n (unmarked ns marks) (omega (arith, length-unmarked ns marks)))
