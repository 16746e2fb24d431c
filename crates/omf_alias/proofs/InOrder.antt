-- Values in the order of their names.
use Rattle.std.proofs.Common.{◌≡◌, ℕ, zero, suc, ◌-◌, ◌<◌, min, ◌≤◌, Bool, true, false, not, cond, ◌&&◌, List, [], ◌∷◌, length, drop}
use Rattle.std.proofs.Common.{find, filter, get_or, Option, None, Some, refl, sym, ap, ◌∙◌, arith}
use Rattle.std.proofs.Math.ListN.{drop_of_length-le}
use Rattle.std.proofs.Math.Seq.{drop-cons}
use Rattle.std.proofs.lemmas.List.{get_or_default, length-drop}
use Rattle.std.proofs.lemmas.List.Sorted.{ranks_by, sorted_far}
use Rattle.std.specs.Cmp.{IsEquivalence, IsStrictWeakOrder, IsTotalOrder, nat_cmp_is}
use Rattle.std.specs.Cmp.Lexicographic.{nat_list_cmp_total, on_texts, on_texts_equal, slice_cmp, texts_ties}
use Rattle.std.specs.List.Sorted.{IsPartitionedBy, IsStableBy, ties}
use Rattle.std.specs.Option.{option_map}
use Rattle.std.specs.Ordering.{is_eq, is_lt, nat_cmp, ordering_reverse}
use Rattle.std.specs.declared.cmp.Ordering.{Ordering}
use Rattle.std.specs.declared.cmp.Ordering.TheVariants.{Less, Equal, Greater}
use Rattle.omf_place.specs.Names.{agrees, spelled}
use Rattle.omf_place.specs.declared.names.Names.{Names}
use Rattle.omf_alias.specs.Ordered.{compared, IsByName, value_of}
use Rattle.omf_alias.specs.inside.Folded.{folded}
use Rattle.omf_alias.specs.declared.named.NamedValue.{NamedValue}

-- ---- names

names_total : (names : Names) → IsTotalOrder (compared names)
names_total names = on_texts (spelled names)

abbrev pub before : Names → List ℕ → List ℕ → Bool
before names one other = is_lt (compared names one other)

names_weak : (names : Names) → IsStrictWeakOrder (before names)
names_weak names = ranks_by nat_list_cmp_total (spelled names)

names_agree : (names : Names) → IsEquivalence (agrees names)
names_agree names = on_texts_equal (spelled names)

pub agree-compared : (names : Names) (one other : List ℕ) → agrees names one other ≡ is_eq (compared names one other)
agree-compared names one other = texts_ties (spelled names one) (spelled names other)

-- names of values
abbrev pub before_value : {V : Type 0} → Names → NamedValue V → NamedValue V → Bool
before_value names x y = before names x.name.now y.name.now

pub values_weak : {V : Type 0} (names : Names) → IsStrictWeakOrder (before_value {V = V} names)
values_weak {V} names = ranks_by nat_list_cmp_total (λ (v : NamedValue V). spelled names v.name.now)

tied : (o : Ordering) → (not (is_lt o) && not (is_lt (ordering_reverse o))) ≡ is_eq o
tied Less = refl
tied Equal = refl
tied Greater = refl

ties-agree : {V : Type 0} (names : Names) (x y : NamedValue V)
    → ties (before_value names) x y ≡ agrees names x.name.now y.name.now
ties-agree names x y =
    ap (λ o. not (before names x.name.now y.name.now) && not (is_lt o)) ((names_total names).antisymm y.name.now x.name.now)
    ∙ tied (compared names x.name.now y.name.now) ∙ sym (agree-compared names x.name.now y.name.now)

-- ---- the first that passes

first : {X : Type 0} → List X → Option X
first [] = None
first (x ∷ xs) = Some x

first-turn : {X : Type 0} (b : Bool) (x : X) (rest : Option X) (xs : List X) → rest ≡ first xs
    → cond b (Some x) rest ≡ first (cond b (x ∷ xs) xs)
unfolding first
first-turn true x rest xs e = refl
first-turn false x rest xs e = e

find-filter : {X : Type 0} (p : X → Bool) (xs : List X) → find p xs ≡ first (filter p xs)
unfolding first
find-filter p [] = refl
find-filter p (x ∷ xs) = first-turn (p x) x (find p xs) (filter p xs) (find-filter p xs)

passes : {X : Type 0} (p : X → Bool) (xs : List X) (x : X) → find p xs ≡ Some x → p x ≡ true
passes p [] x e = let z : ⊥ = cc in absurd z
passes {X} p (y ∷ ys) x e = at (p y) refl (λ h. passes p ys x h)
  where
    at : (b : Bool) → p y ≡ b → (find p ys ≡ Some x → p x ≡ true) → p x ≡ true
    at true t rest =
        let same : Some y ≡ Some x = ap (λ c. cond c (Some y) (find p ys)) (sym t) ∙ e in
        let same' : y ≡ x = cc in
        ap p (sym same') ∙ t
    at false t rest = rest (ap (λ c. cond c (Some y) (find p ys)) (sym t) ∙ e)

-- ---- a stable sort keeps the first of each name

abbrev named : {V : Type 0} → Names → (name : List ℕ) → NamedValue V → Bool
named names name v = agrees names v.name.now name

kept-some : {V : Type 0} (names : Names) (xs ys : List (NamedValue V)) (name : List ℕ) (e : NamedValue V)
    → IsStableBy (before_value names) xs ys → find (named names name) xs ≡ Some e
    → find (named names name) ys ≡ find (named names name) xs
kept-some {V} names xs ys name e stable found =
    let laws = names_agree names in
    let here : agrees names e.name.now name ≡ true = passes (named names name) xs e found in
    let each : (v : NamedValue V) → named names name v ≡ ties (before_value names) e v =
    λ v. laws.symm v.name.now name ∙ sym (laws.congr e.name.now name v.name.now here) ∙ sym (ties-agree names e v) in
    let same : (λ (v : NamedValue V). named names name v) ≡ (λ (v : NamedValue V). ties (before_value names) e v) =
    λ j. λ v. each v j in
    find-filter (named names name) ys
    ∙ ap (λ t. first (filter t ys)) same ∙ ap first (stable e) ∙ sym (ap (λ t. first (filter t xs)) same)
    ∙ sym (find-filter (named names name) xs)

kept-at : {V : Type 0} (names : Names) (xs ys : List (NamedValue V)) (name : List ℕ) (one other : Option (NamedValue V))
    → IsStableBy (before_value names) xs ys → find (named names name) xs ≡ one → find (named names name) ys ≡ other
    → find (named names name) ys ≡ find (named names name) xs
kept-at names xs ys name (Some e) other stable f g = kept-some names xs ys name e stable f
kept-at names xs ys name None None stable f g = g ∙ sym f
kept-at names xs ys name None (Some e) stable f g = sym (kept-some names ys xs name e (λ x. sym (stable x)) g)

pub value-kept : {V : Type 0} (names : Names) (xs ys : List (NamedValue V)) (name : List ℕ)
    → IsStableBy (before_value names) xs ys → value_of names ys name ≡ value_of names xs name
value-kept names xs ys name stable =
    ap (option_map (λ v. v.value))
    (kept-at names xs ys name (find (named names name) xs) (find (named names name) ys) stable refl refl)

-- ---- found by halves

off-true : (b : Bool) → (b ≡ false → ⊥) → b ≡ true
off-true true never = refl
off-true false never = absurd (never refl)

-- values before a name stand before all others
pub parted : {V : Type 0} (names : Names) (values : List (NamedValue V)) (name : List ℕ) → IsByName names values
    → IsPartitionedBy (λ v. before names v.name.now name) values
parted {V} names values name up i j d le within here =
    let far = sorted_far (before_value {V = V} names) (values_weak {V = V} names) values up i j d le within in
    off-true (before names (get_or values i d).name.now name)
    (λ off. let z : true ≡ false = sym here
    ∙ (names_weak names).chain (get_or values j d).name.now (get_or values i d).name.now name far off in cc)

find-past : {X : Type 0} (p : X → Bool) (xs : List X) (i : ℕ) → i ≤ length xs
    → ((k : ℕ) (d : X) → 0 ≤ k → k < i → p (get_or xs k d) ≡ false) → find p xs ≡ find p (drop i xs)
find-past p xs zero h none = refl
find-past p [] (suc i) h none = let z : ⊥ = omega (arith, h) in absurd z
find-past p (x ∷ xs) (suc i) h none =
    ap (λ c. cond c (Some x) (find p xs)) (none 0 x (omega arith) (omega arith))
    ∙ find-past p xs i (omega (arith, h)) (λ k d l m. none (suc k) d (omega arith) (omega (arith, m)))

find-none : {X : Type 0} (p : X → Bool) (xs : List X) → ((k : ℕ) (d : X) → k < length xs → p (get_or xs k d) ≡ false)
    → find p xs ≡ None
find-none p [] none = refl
find-none p (x ∷ xs) none =
    ap (λ c. cond c (Some x) (find p xs)) (none 0 x (omega arith))
    ∙ find-none p xs (λ k d m. none (suc k) d (omega (arith, m)))

not-equal : (o : Ordering) → is_lt o ≡ true → is_eq o ≡ false
not-equal Less e = refl
not-equal Equal e = let z : ⊥ = cc in absurd z
not-equal Greater e = refl

module _ {V : Type 0} (names : Names) (values : List (NamedValue V)) (name : List ℕ) (place : ℕ)
    (front : (k : ℕ) (d : NamedValue V) → 0 ≤ k → k < place → before names (get_or values k d).name.now name ≡ true)
  where
    past : place ≤ length values → find (named names name) values ≡ find (named names name) (drop place values)
    past h =
        find-past (named names name) values place h
        (λ k d l m. agree-compared names (get_or values k d).name.now name
        ∙ not-equal (compared names (get_or values k d).name.now name) (front k d l m))

    pub value-beyond : place ≤ length values → length values ≤ place → value_of names values name ≡ None
    value-beyond h g =
        ap (option_map (λ v. v.value)) (past h ∙ ap (find (named names name)) (drop_of_length-le values g))

    pub value-here : (v : NamedValue V) → place < length values → get_or values place v ≡ v
        → agrees names v.name.now name ≡ true → value_of names values name ≡ Some v.value
    value-here v h is agree =
        ap (option_map (λ v. v.value))
        (past (omega (arith, h))
        ∙ ap (find (named names name)) (drop-cons values place v h ∙ ap (λ w. w ∷ drop (suc place) values) is)
        ∙ ap (λ c. cond c (Some v) (find (named names name) (drop (suc place) values))) agree)

greater : (o : Ordering) → is_lt o ≡ false → is_eq o ≡ false → is_lt (ordering_reverse o) ≡ true
greater Less e f = let z : ⊥ = cc in absurd z
greater Equal e f = let z : ⊥ = cc in absurd z
greater Greater e f = refl

off-false : (b : Bool) → (b ≡ true → ⊥) → b ≡ false
off-false true never = absurd (never refl)
off-false false never = refl

equal-is : (o : Ordering) → is_eq o ≡ true → o ≡ Equal
equal-is Less e = let z : ⊥ = cc in absurd z
equal-is Equal e = refl
equal-is Greater e = let z : ⊥ = cc in absurd z

find-none-from : {X : Type 0} (p : X → Bool) (xs : List X) (i : ℕ)
    → ((k : ℕ) (d : X) → i ≤ k → k < length xs → p (get_or xs k d) ≡ false) → find p (drop i xs) ≡ None
find-none-from p xs zero none = find-none p xs (λ k d m. none k d (omega arith) m)
find-none-from p [] (suc i) none = refl
find-none-from p (x ∷ xs) (suc i) none =
    find-none-from p xs i (λ k d l m. none (suc k) d (omega (arith, l)) (omega (arith, m)))

module _ {V : Type 0} (names : Names) (values : List (NamedValue V)) (name : List ℕ) (place : ℕ) (v : NamedValue V)
    (up : IsByName names values) (h : place < length values) (is : get_or values place v ≡ v)
    (behind : before names v.name.now name ≡ false) (apart : agrees names v.name.now name ≡ false)
  where
    other : (k : ℕ) (d : NamedValue V) → place ≤ k → k < length values
        → agrees names (get_or values k d).name.now name ≡ true → ⊥
    other k d le within agree =
        let total = names_total names in
        let n = (get_or values k d).name.now in
        let after : before names name v.name.now ≡ true =
        ap is_lt (total.antisymm name v.name.now)
        ∙ greater (compared names v.name.now name) behind (sym (agree-compared names v.name.now name) ∙ apart) in
        let equal : compared names n name ≡ Equal =
        equal-is (compared names n name) (sym (agree-compared names n name) ∙ agree) in
        let less : before names n v.name.now ≡ true = ap is_lt (total.congr n name v.name.now equal) ∙ after in
        let far : before names n (get_or values place d).name.now ≡ false =
        sorted_far (before_value {V = V} names) (values_weak {V = V} names) values up place k d le within in
        let one : get_or values place d ≡ v = get_or_default values place d v h ∙ is in
        let z : true ≡ false =
        sym less ∙ ap (λ (w : NamedValue V). before names n w.name.now) (sym one) ∙ far in cc

    pub value-nowhere :
        ((k : ℕ) (d : NamedValue V) → 0 ≤ k → k < place → before names (get_or values k d).name.now name ≡ true)
        → value_of names values name ≡ None
    value-nowhere front =
        ap (option_map (λ v. v.value))
        (past names values name place front (omega (arith, h))
        ∙ find-none-from (named names name) values place
        (λ k d l m. off-false (agrees names (get_or values k d).name.now name) (other k d l m)))

-- ---- where one of two names has no bytes left, their lengths decide

ended-lists : (m n i : ℕ) (xs ys : List ℕ) → i ≡ min m n → length xs ≡ m - i → length ys ≡ n - i
    → nat_cmp m n ≡ slice_cmp nat_cmp (folded xs) (folded ys)
ended-lists m n i [] [] h a b = sym (nat_cmp_is m n Equal (omega (arith, h, a, b)))
ended-lists m n i [] (y ∷ ys) h a b = sym (nat_cmp_is m n Less (omega (arith, h, a, b)))
ended-lists m n i (x ∷ xs) [] h a b = sym (nat_cmp_is m n Greater (omega (arith, h, a, b)))
ended-lists m n i (x ∷ xs) (y ∷ ys) h a b = let z : ⊥ = omega (arith, h, a, b) in absurd z

pub ended-names : (xs ys : List ℕ) (i : ℕ) → i ≡ min (length xs) (length ys)
    → nat_cmp (length xs) (length ys) ≡ slice_cmp nat_cmp (folded (drop i xs)) (folded (drop i ys))
ended-names xs ys i h =
    ended-lists (length xs) (length ys) i (drop i xs) (drop i ys) h (length-drop i xs) (length-drop i ys)
