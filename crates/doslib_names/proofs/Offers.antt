-- Names that are offered, and those that are offered again.
use Rattle.std.proofs.Common.{◌≡◌, ℕ, ◌+◌, ◌<◌, Bool, true, false, cond, List, [], ◌∷◌, ◌++◌, Option, Some, None}
use Rattle.std.proofs.Common.{length, map, take, drop, get_or, refl, sym, ap, ◌∙◌, append_assoc}
use Rattle.std.specs.List.{find}
use Rattle.std.specs.Option.{option_map, option_or, option_to_list}
use Rattle.std.proofs.lemmas.List.{drop_more, map-append, take_more}
use Rattle.omf_keys.proofs.Agreeing.{names_agree}
use Rattle.omf_place.specs.Names.{agrees}
use Rattle.omf_place.specs.declared.names.Names.{Names as Choice}
use Rattle.omf_search.specs.Said.{Module}
use Rattle.doslib_names.specs.declared.doubled.Offer as lent
use Rattle.doslib_names.specs.Names.{Doubled, Offer, doubled_behind, doubled_with, first_offer, offer_by, offers_from}
use Rattle.doslib_names.specs.inside.First.{offer_said}

-- ---- what modules offer

-- one module more
pub offers-more : {X : Type 0} (f : X → Module) (xs : List X) (i : ℕ) (d : X) (old new goal : List Offer)
    → i < length xs → new ≡ old ++ map (offer_by i) (f (get_or xs i d)).offered
    → old ++ offers_from i (map f (drop i xs)) ≡ goal → new ++ offers_from (i + 1) (map f (drop (i + 1) xs)) ≡ goal
offers-more f xs i d old new goal h added before =
    let rest = offers_from (i + 1) (map f (drop (i + 1) xs)) in
    ap (λ l. l ++ rest) added ∙ append_assoc old (map (offer_by i) (f (get_or xs i d)).offered) rest
    ∙ ap (λ l. old ++ offers_from i (map f l)) (sym (drop_more xs i d h)) ∙ before

-- ---- who offers a name first

find_push : {A : Type 0} (test : A → Bool) (xs : List A) (y : A)
    → find test (xs ++ y ∷ []) ≡ option_or (find test xs) (cond (test y) (Some y) None)
find_push test [] y = refl
find_push test (x ∷ xs) y =
    elim (test x) as (λ t. cond t (Some x) (find test (xs ++ y ∷ []))
    ≡ option_or (cond t (Some x) (find test xs)) (cond (test y) (Some y) None)) [
      | true ↦ refl
      | false ↦ find_push test xs y
    ]

first-push : (names : Choice) (before : List Offer) (o : Offer) (q : List ℕ)
    → first_offer names (before ++ o ∷ []) q
    ≡ option_or (first_offer names before q) (cond (agrees names q o.name) (Some o) None)
first-push names before o q = find_push (λ (x : Offer). agrees names q x.name) before o

-- names that agree are offered by the same
same-first : (names : Choice) (before : List Offer) (x y : List ℕ) → agrees names x y ≡ true
    → first_offer names before x ≡ first_offer names before y
same-first names [] x y e = refl
same-first names (o ∷ os) x y e =
    ap (λ t. cond t (Some o) (first_offer names os x)) ((names_agree names).congr x y o.name e)
    ∙ ap (λ r. cond (agrees names y o.name) (Some o) r) (same-first names os x y e)

abbrev pub by_of : Option Offer → Option ℕ
by_of o = option_map (λ (x : Offer). x.offered_by) o

-- a name that was offered before
old-by : (hit : Bool) (o : Offer) (had : Option Offer) (first : ℕ) → (hit ≡ true → by_of had ≡ Some first)
    → by_of had ≡ by_of (option_or had (cond hit (Some o) None))
old-by hit o (Some x) first there = refl
old-by false o None first there = refl
old-by true o None first there = absurd (let z : ◌≡◌ {A = Option ℕ} None (Some first) = there refl in cc)

pub first-old : (names : Choice) (before : List Offer) (o : Offer) (first : ℕ) (q : List ℕ)
    → by_of (first_offer names before o.name) ≡ Some first
    → by_of (first_offer names before q) ≡ by_of (first_offer names (before ++ o ∷ []) q)
first-old names before o first q there =
    old-by (agrees names q o.name) o (first_offer names before q) first
    (λ e. ap by_of (same-first names before q o.name e) ∙ there)
    ∙ ap by_of (sym (first-push names before o q))

-- one that wasn't
new-by : (hit : Bool) (o : Offer) (had : Option Offer) → (hit ≡ true → by_of had ≡ None)
    → cond hit (Some o.offered_by) (by_of had) ≡ by_of (option_or had (cond hit (Some o) None))
new-by false o None none = refl
new-by false o (Some x) none = refl
new-by true o None none = refl
new-by true o (Some x) none = absurd (let z : ◌≡◌ {A = Option ℕ} (Some x.offered_by) None = none refl in cc)

pub first-new : (names : Choice) (before : List Offer) (o : Offer) (q : List ℕ)
    → by_of (first_offer names before o.name) ≡ None
    → cond (agrees names q o.name) (Some o.offered_by) (by_of (first_offer names before q))
    ≡ by_of (first_offer names (before ++ o ∷ []) q)
first-new names before o q none =
    new-by (agrees names q o.name) o (first_offer names before q)
    (λ e. ap by_of (same-first names before q o.name e) ∙ none)
    ∙ ap by_of (sym (first-push names before o q))

-- ---- offers that were gone through

-- the ones before, and the one that comes next
pub front-more : (offers : List lent.Offer) (i : ℕ) (d : lent.Offer) → i < length offers
    → map offer_said (take (i + 1) offers) ≡ map offer_said (take i offers) ++ offer_said (get_or offers i d) ∷ []
front-more offers i d h =
    ap (map offer_said) (take_more offers i d h) ∙ map-append offer_said (take i offers) (get_or offers i d ∷ [])

doubled-by : (o : Offer) (had : Option Offer) (first : ℕ) → by_of had ≡ Some first
    → option_to_list (option_map (doubled_with o) had)
    ≡ record { name = o.name; first = first; second = o.offered_by } ∷ []
doubled-by o None first is = absurd (let z : ◌≡◌ {A = Option ℕ} None (Some first) = is in cc)
doubled-by o (Some x) first is =
    let e : x.offered_by ≡ first = ap (λ r. elim r [ None ↦ first | Some k ↦ k ]) is in
    ap (λ (k : ℕ). let d : Doubled = record { name = o.name; first = k; second = o.offered_by } in d ∷ []) e

none-by : (o : Offer) (had : Option Offer) → by_of had ≡ None → option_to_list (option_map (doubled_with o) had) ≡ []
none-by o None is = refl
none-by o (Some x) is = absurd (let z : ◌≡◌ {A = Option ℕ} (Some x.offered_by) None = is in cc)

step : (names : Choice) (offers : List lent.Offer) (i : ℕ) (d : lent.Offer) → i < length offers
    → doubled_behind names (map offer_said (take i offers)) (map offer_said (drop i offers))
    ≡ option_to_list (option_map (doubled_with (offer_said (get_or offers i d)))
    (first_offer names (map offer_said (take i offers)) (get_or offers i d).name.now))
    ++ doubled_behind names (map offer_said (take (i + 1) offers)) (map offer_said (drop (i + 1) offers))
step names offers i d h =
    let o = get_or offers i d in
    let before = map offer_said (take i offers) in
    let rest = map offer_said (drop (i + 1) offers) in
    ap (λ l. doubled_behind names before (map offer_said l)) (drop_more offers i d h)
    ∙ ap (λ l. option_to_list (option_map (doubled_with (offer_said o)) (first_offer names before o.name.now))
    ++ doubled_behind names l rest) (sym (front-more offers i d h))

-- the next one is offered again
pub again : (names : Choice) (offers : List lent.Offer) (i : ℕ) (d : lent.Offer) (old new goal : List Doubled)
    (first : ℕ) (x : Doubled) → i < length offers
    → by_of (first_offer names (map offer_said (take i offers)) (get_or offers i d).name.now) ≡ Some first
    → x ≡ record { name = (get_or offers i d).name.now; first = first; second = (get_or offers i d).offered_by }
    → new ≡ old ++ x ∷ []
    → old ++ doubled_behind names (map offer_said (take i offers)) (map offer_said (drop i offers)) ≡ goal
    → new ++ doubled_behind names (map offer_said (take (i + 1) offers)) (map offer_said (drop (i + 1) offers)) ≡ goal
again names offers i d old new goal first x h there is added before =
    let o = offer_said (get_or offers i d) in
    let rest = doubled_behind names (map offer_said (take (i + 1) offers)) (map offer_said (drop (i + 1) offers)) in
    let one = doubled-by o (first_offer names (map offer_said (take i offers)) o.name) first there in
    ap (λ l. l ++ rest) (added ∙ ap (λ (y : Doubled). old ++ y ∷ []) is ∙ ap (λ l. old ++ l) (sym one))
    ∙ append_assoc old _ rest ∙ ap (λ l. old ++ l) (sym (step names offers i d h)) ∙ before

-- it is new
pub afresh : (names : Choice) (offers : List lent.Offer) (i : ℕ) (d : lent.Offer) (old goal : List Doubled)
    → i < length offers
    → by_of (first_offer names (map offer_said (take i offers)) (get_or offers i d).name.now) ≡ None
    → old ++ doubled_behind names (map offer_said (take i offers)) (map offer_said (drop i offers)) ≡ goal
    → old ++ doubled_behind names (map offer_said (take (i + 1) offers)) (map offer_said (drop (i + 1) offers)) ≡ goal
afresh names offers i d old goal h none before =
    let o = offer_said (get_or offers i d) in
    let rest = doubled_behind names (map offer_said (take (i + 1) offers)) (map offer_said (drop (i + 1) offers)) in
    ap (λ l. old ++ (l ++ rest)) (sym (none-by o (first_offer names (map offer_said (take i offers)) o.name) none))
    ∙ ap (λ l. old ++ l) (sym (step names offers i d h)) ∙ before
