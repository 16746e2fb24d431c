-- How a search goes back for what another member offers: to the first places at which that is wanted.
use Rattle.std.proofs.Common.{◌≡◌, ℕ, zero, suc, ◌+◌, ◌<◌, ◌≤◌, Bool, true, false, cond, not, ◌&&◌, ◌||◌, List, [], ◌∷◌}
use Rattle.std.proofs.Common.{◌++◌, length, map, take, get_or, slice_get, Option, Some, None, is_some, IsSome, IfSome}
use Rattle.std.proofs.Common.{refl, ap, sym, subst, ◌∙◌, ◌↔◌, arith}
use Rattle.std.proofs.lemmas.List.{length-map, take-map, take_all}
use Rattle.std.proofs.lemmas.List.Folds.{find-append, list_any-append}
use Rattle.std.proofs.lemmas.Map.Keys.{le_from_not_gt}
use Rattle.std.specs.BTreeSet.{BTreeSet, IsLowerBound, contains}
use Rattle.std.specs.Borrow.{Bor}
use Rattle.std.specs.Cmp.{unsigned_Decides, unsigned_ties}
use Rattle.std.specs.List.{find, list_any}
use Rattle.std.specs.Option.{option_or}
use Rattle.std.specs.Ordering.{is_eq, nat_cmp}
use Rattle.omf_place.specs.Names.{agrees}
use Rattle.omf_place.specs.declared.names.Names.{Names}
use Rattle.omf_search.specs.declared.name_map.NameMap.{NameMap}
use Rattle.omf_search.specs.declared.said.Wanted as held
use Rattle.omf_search.specs.declared.taken.Taken.{Taken}
use Rattle.omf_search.specs.Keys.{value_of}
use Rattle.omf_search.specs.Places.{place_from}
use Rattle.omf_search.specs.Results.{wanted_said}
use Rattle.omf_search.specs.Said.{Module, Wanted, is_defined, offers}
use Rattle.omf_search.specs.Search.{Member, takes}
use Rattle.omf_search.specs.Searching.{HasFirst, HasPlaces}
use Rattle.omf_search.specs.Taken.{IsTaken}
use Rattle.omf_search.specs.Wanted.{met, wanted_names}
use Rattle.omf_search.specs.inside.Back.{is_open}
use Rattle.omf_keys.proofs.Agreeing.{names_agree}
use Rattle.omf_search.proofs.ChoiceSteps.{find-passes, takes-less}
use Rattle.omf_search.proofs.Joining.{wanted-front, wanted-more}
use Rattle.omf_search.proofs.Placing.{place_from-le, place_from-more}
use Rattle.omf_search.proofs.Slack.{is_defined-agrees}

-- ---- first places

-- what passes a test among the first of a list has a first place there
first-before : {X : Type 0} (n : ℕ) (p r : X → Bool) (xs : List X) (m : ℕ) (w : X) → find p (take m xs) ≡ Some w
    → r w ≡ true → (k : ℕ) × (place_from n r xs ≡ Some k) × (k < n + m)
first-before n p r xs zero w e t = absurd (let u : None ≡ Some w = e in cc)
first-before n p r [] (suc m) w e t = absurd (let u : None ≡ Some w = e in cc)
first-before n p r (x ∷ xs) (suc m) w e t =
    (elim (r x) as (λ b.
    r x ≡ b → (k : ℕ) × (cond b (Some n) (place_from (n + 1) r xs) ≡ Some k) × (k < n + suc m)) [
      | true ↦ λ s. (n, refl, omega arith)
      | false ↦ λ s.
          (elim (p x) as (λ b.
          cond b (Some x) (find p (take m xs)) ≡ Some w
          → (k : ℕ) × (place_from (n + 1) r xs ≡ Some k) × (k < n + suc m)) [
            | true ↦ λ u. absurd (let v : x ≡ w = cc in let f : true ≡ false = sym t ∙ ap r (sym v) ∙ s in cc)
            | false ↦ λ u.
                let rest = first-before (n + 1) p r xs m w u t in
                (rest.0, rest.1, omega (arith, rest.2))
          ]) e
    ]) refl

-- where none of the first elements passes a test, nothing that passes it has its first place among them
first-passes : {X : Type 0} {P : Type 0} (n : ℕ) (p r : X → Bool) (xs : List X) (m k : ℕ)
    → ((x : X) → r x ≡ true → p x ≡ true) → find p (take m xs) ≡ None → place_from n r xs ≡ Some (n + k) → k < m → P
first-passes n p r [] m k both e f h = absurd (let u : None ≡ Some (n + k) = f in cc)
first-passes n p r (x ∷ xs) zero k both e f h = absurd (omega (arith, h))
first-passes {P = P} n p r (x ∷ xs) (suc m) k both e f h =
    (elim (p x) as (λ b. p x ≡ b → cond b (Some x) (find p (take m xs)) ≡ None → P) [
      | true ↦ λ s u. absurd (let v : Some x ≡ None = u in cc)
      | false ↦ λ s u.
          (elim (r x) as (λ b. r x ≡ b → cond b (Some n) (place_from (n + 1) r xs) ≡ Some (n + k) → P) [
            | true ↦ λ t v. absurd (let z : true ≡ false = sym (both x t) ∙ s in cc)
            | false ↦ λ t v.
                let le = place_from-le (n + 1) r xs (n + k) v in
                (elim k as (λ j. n + 1 ≤ n + j → place_from (n + 1) r xs ≡ Some (n + j) → j < suc m → P) [
                  | zero ↦ λ l w i. absurd (omega (arith, l))
                  | suc j ↦ λ l w i.
                      let same : n + suc j ≡ (n + 1) + j = omega arith in
                      first-passes (n + 1) p r xs m j both u (w ∙ ap (λ y. Some y) same) (omega (arith, i))
                ]) le v h
          ]) refl f
    ]) refl e

-- a first place in a front
first-front : {X : Type 0} (n : ℕ) (r : X → Bool) (xs ys : List X) (k : ℕ) → place_from n r (xs ++ ys) ≡ Some k
    → k < n + length xs → place_from n r xs ≡ Some k
first-front n r [] ys k e h = absurd (let le = place_from-le n r ys k e in omega (arith, h))
first-front n r (x ∷ xs) ys k e h =
    (elim (r x) as (λ b.
    cond b (Some n) (place_from (n + 1) r (xs ++ ys)) ≡ Some k → cond b (Some n) (place_from (n + 1) r xs) ≡ Some k) [
      | true ↦ λ u. u
      | false ↦ λ u. first-front (n + 1) r xs ys k u (omega (arith, h))
    ]) e

-- ---- places that are put back

one-number : (p q : ℕ) → is_eq (nat_cmp p q) ≡ true → p ≡ q
one-number p q e = (unsigned_Decides p q).0 (unsigned_ties p q ∙ e)

-- what is there with one more
pub kept-put : (old new : BTreeSet ℕ) (p : ℕ)
    → ((q : ℕ) → contains nat_cmp new q ≡ cond (is_eq (nat_cmp p q)) true (contains nat_cmp old q))
    → (q : ℕ) → contains nat_cmp old q ≡ true → contains nat_cmp new q ≡ true
kept-put old new p is q e =
    is q ∙ by (is_eq (nat_cmp p q)) (contains nat_cmp old q) e
  where
    by : (b c : Bool) → c ≡ true → cond b true c ≡ true
    by true c u = refl
    by false c u = u

-- which is there
pub put-there : (old new : BTreeSet ℕ) (p q : ℕ) → p ≡ q
    → ((q : ℕ) → contains nat_cmp new q ≡ cond (is_eq (nat_cmp p q)) true (contains nat_cmp old q))
    → contains nat_cmp new q ≡ true
put-there old new p q e is =
    is q ∙ ap (λ b. cond b true (contains nat_cmp old q)) (sym (unsigned_ties p q) ∙ (unsigned_Decides p q).1 e)

-- and with it all are before the next one
pub behind-put : (old new : BTreeSet ℕ) (p next : ℕ)
    → ((q : ℕ) → contains nat_cmp new q ≡ cond (is_eq (nat_cmp p q)) true (contains nat_cmp old q)) → p < next
    → ((q : ℕ) → contains nat_cmp old q ≡ true → q < next) → (q : ℕ) → contains nat_cmp new q ≡ true → q < next
behind-put old new p next is h was q e =
    (elim (is_eq (nat_cmp p q)) as (λ b.
    is_eq (nat_cmp p q) ≡ b → cond b true (contains nat_cmp old q) ≡ true → q < next) [
      | true ↦ λ t u. let same = one-number p q t in omega (arith, same)
      | false ↦ λ t u. was q u
    ]) refl (sym (is q) ∙ e)

-- without the first: what is taken out is it
pub first-gone : (old new : List ℕ) (p : ℕ) (o : Option ℕ) → slice_get old 0 ≡ Some p
    → (IsSome o ↔ (0 < length old)) → IfSome o (λ k. old ≡ k ∷ new) → old ≡ p ∷ new
first-gone [] new p o e is gone = absurd (let u : None ≡ Some p = e in cc)
first-gone (x ∷ xs) new p None e is gone = absurd (let u : false ≡ true = is.1 (omega arith) in cc)
first-gone (x ∷ xs) new p (Some k) e is gone =
    let one : x ≡ p = cc in let two : x ≡ k = cc in gone ∙ ap (λ y. y ∷ new) (sym two ∙ one)

-- any other is still there
pub kept-gone : (old new : BTreeSet ℕ) (p : ℕ) → old.keys ≡ p ∷ new.keys → (q : ℕ) → contains nat_cmp old q ≡ true
    → (q ≡ p → contains nat_cmp new q ≡ true) → contains nat_cmp new q ≡ true
kept-gone old new p is q e or =
    (elim (is_eq (nat_cmp q p)) as (λ b.
    is_eq (nat_cmp q p) ≡ b → (b || contains nat_cmp new q) ≡ true → contains nat_cmp new q ≡ true) [
      | true ↦ λ t u. or (one-number q p t)
      | false ↦ λ t u. u
    ]) refl (sym (ap (list_any (λ k. is_eq (nat_cmp q k))) is) ∙ e)

-- what is still there was there before
pub behind-gone : (old new : BTreeSet ℕ) (p : ℕ) → old.keys ≡ p ∷ new.keys → (q : ℕ) → contains nat_cmp new q ≡ true
    → contains nat_cmp old q ≡ true
behind-gone old new p is q e =
    ap (list_any (λ k. is_eq (nat_cmp q k))) is ∙ ap (λ b. is_eq (nat_cmp q p) || b) e ∙ or-true (is_eq (nat_cmp q p))
  where
    or-true : (b : Bool) → (b || true) ≡ true
    or-true true = refl
    or-true false = refl

-- where there is no first one, there is none
pub no-first : {X Y : Type 0} (o : Option X) (keys : List Y) → o ≡ None → (IsSome o ↔ (0 < length keys)) → keys ≡ []
no-first o [] e is = refl
no-first o (x ∷ xs) e is = absurd (let u : false ≡ true = sym (ap is_some e) ∙ is.1 (omega arith) in cc)

pub none-back : (back : BTreeSet ℕ) (q : ℕ) {P : Type 0} → back.keys ≡ [] → contains nat_cmp back q ≡ true → P
none-back back q is e =
    absurd (let u : false ≡ true = sym (ap (list_any (λ k. is_eq (nat_cmp q k))) is) ∙ e in cc)

-- ---- what takes a member

module _ (names : Names) (bs : List Member) (ms : List Module) where
  -- names that agree take alike
  takes-agrees : (v w : Wanted) → agrees names w.name v.name ≡ true → takes names bs ms v ≡ takes names bs ms w
  takes-agrees v w e =
      let same : agrees names w.name ≡ agrees names v.name =
      λ j. λ x. (names_agree names).congr w.name v.name x e j in
      ap (λ b. not b && is_some (find (λ (x : Member). offers names v.name x.says) bs))
      (sym (is_defined-agrees names ms w.name v.name e))
      ∙ ap (λ t. not (is_defined names ms w.name) && is_some (find (λ (x : Member). list_any t x.says.offered) bs))
      (sym same)

  -- where none of so many wanted names takes a member, no place need be put back
  pub settled-first : (ws : List Wanted) (many : ℕ) (back : BTreeSet ℕ) → find (takes names bs ms) (take many ws) ≡ None
      → HasFirst names (takes names bs ms) ws many back
  settled-first ws many back none = λ w p t first h.
      let z : p ≡ 0 + p = omega arith in
      first-passes 0 (takes names bs ms) (λ (v : Wanted). agrees names w.name v.name) ws many p
      (λ v e. takes-agrees v w e ∙ t) none (first ∙ ap (λ j. Some j) z) h

  -- before the places that are put back no wanted name takes a member
  pub first-settled : (ws : List Wanted) (many least : ℕ) (back : BTreeSet ℕ)
      → HasFirst names (takes names bs ms) ws many back → least ≤ many
      → ((q : ℕ) → contains nat_cmp back q ≡ true → least ≤ q) → find (takes names bs ms) (take least ws) ≡ None
  first-settled ws many least back has h low =
      let found = find (takes names bs ms) (take least ws) in
      (elim found as (λ o. found ≡ o → o ≡ None) [
        | None ↦ λ e. refl
        | Some w ↦ λ e.
            let there =
            first-before 0 (takes names bs ms) (λ (v : Wanted). agrees names w.name v.name) ws least w e
            ((names_agree names).refl w.name) in
            let below : there.0 < many = omega (arith, there.2, h) in
            let t = find-passes (takes names bs ms) (take least ws) w e in
            absurd (omega (arith, there.2, low there.0 (has w there.0 t there.1 below)))
      ]) refl

  -- so it is before the least of them
  pub before-first : (ws : List Wanted) (many p : ℕ) (back : BTreeSet ℕ)
      → HasFirst names (takes names bs ms) ws many back → ((q : ℕ) → contains nat_cmp back q ≡ true → q < many)
      → contains nat_cmp back p ≡ true → IsLowerBound nat_cmp back p → find (takes names bs ms) (take p ws) ≡ None
  before-first ws many p back has behind is least =
      let below = behind p is in
      first-settled ws many p back has (omega (arith, below)) (λ q e. le_from_not_gt p q (least q e))

  -- a place is done with at which nothing is found
  pub first-done : (ws : List Wanted) (many p : ℕ) (old new : BTreeSet ℕ) → old.keys ≡ p ∷ new.keys
      → find (takes names bs ms) (take (p + 1) ws) ≡ None → HasFirst names (takes names bs ms) ws many old
      → HasFirst names (takes names bs ms) ws many new
  first-done ws many p old new gone none has = λ w q t first h.
      kept-gone old new p gone q (has w q t first h)
      (λ e. settled-first ws (p + 1) new none w q t first (omega (arith, e)))

  -- one name more that is offered
  pub first-name : (ws : List Wanted) (many : ℕ) (front : List (List ℕ)) (n : List ℕ) (old new : BTreeSet ℕ)
      → ((q : ℕ) → contains nat_cmp old q ≡ true → contains nat_cmp new q ≡ true)
      → ((p : ℕ) → is_defined names ms n ≡ false
      → place_from 0 (λ (v : Wanted). agrees names n v.name) ws ≡ Some p → p < many → contains nat_cmp new p ≡ true)
      → HasFirst names (is_open names ms front) ws many old
      → HasFirst names (is_open names ms (front ++ n ∷ [])) ws many new
  first-name ws many front n old new kept own has = λ w p t first h.
      let d = is_defined names ms w.name in
      let r = agrees names w.name in
      either d (list_any r front) (r n) (sym (ap (λ b. not d && b) (list_any-append r front (n ∷ []))) ∙ t)
      (λ u. kept p (has w p u first h))
      (λ d e.
      let same : agrees names w.name ≡ agrees names n = λ j. λ x. (names_agree names).congr w.name n x e j in
      own p (sym (is_defined-agrees names ms w.name n e) ∙ d)
      (sym (ap (λ r. place_from 0 (λ (v : Wanted). r v.name) ws) same) ∙ first) h)
    where
      either : {P : Type 0} (d a c : Bool) → (not d && (a || (c || false))) ≡ true → ((not d && a) ≡ true → P)
          → (d ≡ false → c ≡ true → P) → P
      either true a c e f g = absurd (let u : false ≡ true = e in cc)
      either false true c e f g = f refl
      either false false true e f g = g refl refl
      either false false false e f g = absurd (let u : false ≡ true = e in cc)

-- of no names none is wanted
pub first-none : (names : Names) (ms : List Module) (ws : List Wanted) (many : ℕ) (back : BTreeSet ℕ)
    → HasFirst names (is_open names ms []) ws many back
first-none names ms ws many back = λ w p t first h.
    absurd (let u : false ≡ true = sym (and-false (not (is_defined names ms w.name))) ∙ t in cc)
  where
    and-false : (b : Bool) → (b && false) ≡ false
    and-false true = refl
    and-false false = refl

-- ---- what a map has for a name that no module defines

-- by the choice of the search
pub open-said : {A : Type 0} (names other : Names) (ms : List Module) (taken : Taken A) (m : NameMap ℕ A)
    (name : Bor (List ℕ)) (r : Option ℕ) → other ≡ names → IsTaken names ms taken
    → ((ms : List Module) → IsTaken other ms taken
    → r ≡ cond (is_defined other ms name.now) None (value_of other m name))
    → r ≡ cond (is_defined names ms name.now) None (value_of names m name)
open-said names other ms taken m name r e is said =
    subst (λ (n : Names). r ≡ cond (is_defined n ms name.now) None (value_of n m name)) e
    (said ms (subst (λ (n : Names). IsTaken n ms taken) (sym e) is))

-- of an open name, the place that it has
pub open-place : (d : Bool) (r o first : Option ℕ) (p : ℕ) → r ≡ cond d None o → o ≡ first → d ≡ false
    → first ≡ Some p → r ≡ Some p
open-place true r o first p e s t u = absurd (let v : true ≡ false = t in cc)
open-place false r o first p e s t u = e ∙ s ∙ u

-- ---- another member

module _ (names : Names) (bs : List Member) (b : Member) (ms : List Module) where
  pub first-member : (ws : List Wanted) (many : ℕ) (back : BTreeSet ℕ)
      → HasFirst names (takes names bs ms) ws many back
      → HasFirst names (is_open names ms b.says.offered) ws many back
      → HasFirst names (takes names (bs ++ b ∷ []) ms) ws many back
  first-member ws many back has more = λ w p t first h.
      let test : Member → Bool = λ (x : Member). offers names w.name x.says in
      by (not (is_defined names ms w.name)) (find test bs) (offers names w.name b.says)
      (sym (ap (λ o. not (is_defined names ms w.name) && is_some o) (find-append test bs (b ∷ []))) ∙ t)
      (λ u. has w p u first h) (λ u. more w p u first h)
    where
      by : {P : Type 0} (a : Bool) (o : Option Member) (c : Bool)
          → (a && is_some (option_or o (cond c (Some b) None))) ≡ true → ((a && is_some o) ≡ true → P)
          → ((a && c) ≡ true → P) → P
      by false o c e f g = absurd (let u : false ≡ true = e in cc)
      by true (Some x) c e f g = f refl
      by true None true e f g = g refl
      by true None false e f g = absurd (let u : false ≡ true = e in cc)

-- ---- another module

pub first-module : (names : Names) (bs : List Member) (ms : List Module) (m : Module) (many : ℕ) (back : BTreeSet ℕ)
    → many ≤ length (wanted_names names ms) → HasFirst names (takes names bs ms) (wanted_names names ms) many back
    → HasFirst names (takes names bs (ms ++ m ∷ [])) (wanted_names names (ms ++ m ∷ [])) many back
first-module names bs ms m many back within has = λ w p t first h.
    let more = wanted-more names ms m in
    let r : Wanted → Bool = λ (v : Wanted). agrees names w.name v.name in
    has w p (took w t)
    (first-front 0 r (wanted_names names ms) more.0 p (sym (ap (place_from 0 r) more.1) ∙ first)
    (omega (arith, h, within))) h
  where
    took : (w : Wanted) → takes names bs (ms ++ m ∷ []) w ≡ true → takes names bs ms w ≡ true
    took w t =
        (elim (takes names bs ms w) as (λ b. takes names bs ms w ≡ b → b ≡ true) [
          | true ↦ λ e. refl
          | false ↦ λ e. absurd (let u : false ≡ true = sym (takes-less names bs ms m w e) ∙ t in cc)
        ]) refl

-- the place of one wanted name more
pub place-turn : (names : Names) (q : Bor (List ℕ)) (xs : List held.Wanted) (i : ℕ) (d : held.Wanted)
    (was here : Option ℕ) → i < length xs
    → was ≡ place_from 0 (λ (w : Wanted). agrees names q.now w.name) (map wanted_said (take i xs))
    → here ≡ option_or was (cond (agrees names q.now (get_or xs i d).name.now) (Some i) None)
    → here ≡ place_from 0 (λ (w : Wanted). agrees names q.now w.name) (map wanted_said (take (i + 1) xs))
place-turn names q xs i d was here h earlier is =
    is ∙ ap (λ o. option_or o (cond (agrees names q.now (get_or xs i d).name.now) (Some i) None)) earlier
    ∙ sym (place_from-more (λ (w : Wanted). agrees names q.now w.name) wanted_said xs i d h)

pub nothing-wanted : (names : Names) → wanted_names names [] ≡ []
unfolding met
nothing-wanted names = refl

-- the places of what is wanted with it
pub places-more : {A : Type 0} (names : Names) (ms : List Module) (m : Module) (old items all : List held.Wanted)
    (first : ℕ) (before after : NameMap ℕ A) → map wanted_said old ≡ wanted_names names ms
    → map wanted_said items ≡ wanted_names names (ms ++ m ∷ []) → all ≡ items → first ≡ length old
    → (HasPlaces names (map wanted_said (take first all)) before → HasPlaces names (map wanted_said all) after)
    → HasPlaces names (wanted_names names ms) before → HasPlaces names (wanted_names names (ms ++ m ∷ [])) after
places-more names ms m old items all first before after was is same len placed had =
    let count : length (wanted_names names ms) ≡ length old = sym (ap length was) ∙ length-map old wanted_said in
    let front : map wanted_said (take first all) ≡ wanted_names names ms =
    ap (λ l. map wanted_said (take first l)) same ∙ sym (take-map wanted_said first items) ∙ ap (take first) is
    ∙ wanted-front names ms m first (omega (arith, len, count))
    ∙ take_all first (wanted_names names ms) (omega (arith, len, count)) in
    subst (λ ws. HasPlaces names ws after) (ap (map wanted_said) same ∙ is)
    (placed (subst (λ ws. HasPlaces names ws before) (sym front) had))
