-- Variables, with one declaration more.
use Rattle.std.proofs.Common.{◌≡◌, ℕ, zero, suc, ◌+◌, ◌<◌, ◌≤◌, Bool, true, false, cond, List, [], ◌∷◌, ◌++◌, length}
use Rattle.std.proofs.Common.{map, drop, get_or, Option, Some, None, Ok, Err, refl, ap, sym, ◌∙◌, arith}
use Rattle.std.proofs.Math.ListN.{set}
use Rattle.std.proofs.Math.Seq.{map-set_same}
use Rattle.std.proofs.lemmas.List.{at_drop_all, drop_more}
use Rattle.std.specs.declared.result.Result.{Result}
use Rattle.std.specs.Borrow.{Bor}
use Rattle.std.specs.Map.{lookup}
use Rattle.std.specs.Option.{option_or}
use Rattle.omf_library.specs.Members.{joined}
use Rattle.omf_library.specs.Records.{result_and_then}
use Rattle.omf_place.specs.Names.{agrees}
use Rattle.omf_place.specs.declared.names.Names.{Names}
use Rattle.omf_communal.specs.declared.fault.ClashFault.{ClashFault}
use Rattle.omf_communal.specs.declared.fault.ClashFault.TheVariants.{ElementSizes, NearAndFar, Memory}
use Rattle.omf_keys.specs.declared.key.Key.{Key}
use Rattle.omf_communal.specs.declared.declarations.Declared as lent
use Rattle.omf_communal.specs.Modules.{Declared}
use Rattle.omf_communal.specs.Deciding.{IsClash, Variable, fresh, meet, met, widened}
use Rattle.omf_keys.specs.Keys.{key_of, same_key}
use Rattle.omf_communal.specs.inside.Met.{declared_said, place_from, place_of}
use Rattle.omf_keys.proofs.Agreeing.{keys_agree, names_agree}
use Rattle.omf_communal.proofs.Agreeing.{same_value}

module _ (names : Names) (d : Declared) where
  abbrev test : Variable → Bool
  test v = agrees names d.name v.name

  -- no variable has the name
  met_new : (n : ℕ) (vs : List Variable) → place_from n test vs ≡ None → meet names d vs ≡ Ok (vs ++ fresh d ∷ [])
  met_new n [] e = refl
  met_new n (v ∷ vs) e =
      (elim (test v) as (λ b. cond b (Some n) (place_from (n + 1) test vs) ≡ None →
      cond b (result_and_then (λ w. Ok (w ∷ vs)) (widened v d)) (joined (v ∷ []) (meet names d vs))
      ≡ Ok (v ∷ (vs ++ fresh d ∷ []))) [
        | true ↦ λ u. absurd (cc)
        | false ↦ λ u. ap (joined (v ∷ [])) (met_new (n + 1) vs u)
      ]) e

  place_from-le : (n : ℕ) (vs : List Variable) (k : ℕ) → place_from n test vs ≡ Some k → n ≤ k
  place_from-le n [] k e = absurd (cc)
  place_from-le n (v ∷ vs) k e =
      (elim (test v) as (λ b. cond b (Some n) (place_from (n + 1) test vs) ≡ Some k → n ≤ k) [
        | true ↦ λ u. let same : n ≡ k = cc in omega arith
        | false ↦ λ u. let more = place_from-le (n + 1) vs k u in omega arith
      ]) e

  -- the variable at a place has the name
  met_old : (n : ℕ) (vs : List Variable) (k : ℕ) (x w : Variable) → place_from n test vs ≡ Some (n + k)
      → widened (get_or vs k x) d ≡ Ok w → meet names d vs ≡ Ok (set vs k w)
  met_old n [] k x w e h = absurd (cc)
  met_old n (v ∷ vs) zero x w e h =
      (elim (test v) as (λ b. cond b (Some n) (place_from (n + 1) test vs) ≡ Some (n + 0) →
      cond b (result_and_then (λ w. Ok (w ∷ vs)) (widened v d)) (joined (v ∷ []) (meet names d vs)) ≡ Ok (w ∷ vs)) [
        | true ↦ λ u. ap (result_and_then (λ w. Ok (w ∷ vs))) h
        | false ↦ λ u. absurd (let more = place_from-le (n + 1) vs (n + 0) u in omega arith)
      ]) e
  met_old n (v ∷ vs) (suc k) x w e h =
      (elim (test v) as (λ b. cond b (Some n) (place_from (n + 1) test vs) ≡ Some (n + suc k) →
      cond b (result_and_then (λ w. Ok (w ∷ vs)) (widened v d)) (joined (v ∷ []) (meet names d vs))
      ≡ Ok (v ∷ set vs k w)) [
        | true ↦ λ u. absurd (let same : n ≡ n + suc k = cc in omega arith)
        | false ↦
            λ u.
            let j : n + suc k ≡ (n + 1) + k = omega arith in
            ap (joined (v ∷ [])) (met_old (n + 1) vs k x w (u ∙ ap (λ m. Some m) j) h)
      ]) e

  -- and another extent
  met_clash : (n : ℕ) (vs : List Variable) (k : ℕ) (x : Variable) (f : ClashFault) → place_from n test vs ≡ Some (n + k)
      → widened (get_or vs k x) d ≡ Err f → meet names d vs ≡ Err f
  met_clash n [] k x f e h = absurd (cc)
  met_clash n (v ∷ vs) zero x f e h =
      (elim (test v) as (λ b. cond b (Some n) (place_from (n + 1) test vs) ≡ Some (n + 0) →
      cond b (result_and_then (λ w. Ok (w ∷ vs)) (widened v d)) (joined (v ∷ []) (meet names d vs)) ≡ Err f) [
        | true ↦ λ u. ap (result_and_then (λ w. Ok (w ∷ vs))) h
        | false ↦ λ u. absurd (let more = place_from-le (n + 1) vs (n + 0) u in omega arith)
      ]) e
  met_clash n (v ∷ vs) (suc k) x f e h =
      (elim (test v) as (λ b. cond b (Some n) (place_from (n + 1) test vs) ≡ Some (n + suc k) →
      cond b (result_and_then (λ w. Ok (w ∷ vs)) (widened v d)) (joined (v ∷ []) (meet names d vs)) ≡ Err f) [
        | true ↦ λ u. absurd (let same : n ≡ n + suc k = cc in omega arith)
        | false ↦
            λ u.
            let j : n + suc k ≡ (n + 1) + k = omega arith in
            ap (joined (v ∷ [])) (met_clash (n + 1) vs k x f (u ∙ ap (λ m. Some m) j) h)
      ]) e

  place_within : (n : ℕ) (vs : List Variable) (k : ℕ) → place_from n test vs ≡ Some k → k < n + length vs
  place_within n [] k e = absurd (cc)
  place_within n (v ∷ vs) k e =
      (elim (test v) as (λ b. cond b (Some n) (place_from (n + 1) test vs) ≡ Some k → k < n + suc (length vs)) [
        | true ↦ λ u. let same : n ≡ k = cc in omega arith
        | false ↦ λ u. let more = place_within (n + 1) vs k u in omega arith
      ]) e

-- ---- from 0 on

pub meets_new : (names : Names) (d : Declared) (vs : List Variable) → place_of names d.name vs ≡ None
    → meet names d vs ≡ Ok (vs ++ fresh d ∷ [])
meets_new names d vs e = met_new names d 0 vs e

pub meets_old : (names : Names) (d : Declared) (vs : List Variable) (k : ℕ) (x w : Variable)
    → place_of names d.name vs ≡ Some k → widened (get_or vs k x) d ≡ Ok w → meet names d vs ≡ Ok (set vs k w)
meets_old names d vs k x w e h =
    let z : k ≡ 0 + k = omega arith in met_old names d 0 vs k x w (e ∙ ap (λ m. Some m) z) h

pub meets_clash : (names : Names) (d : Declared) (vs : List Variable) (k : ℕ) (x : Variable) (f : ClashFault)
    → place_of names d.name vs ≡ Some k → widened (get_or vs k x) d ≡ Err f → meet names d vs ≡ Err f
meets_clash names d vs k x f e h =
    let z : k ≡ 0 + k = omega arith in met_clash names d 0 vs k x f (e ∙ ap (λ m. Some m) z) h

pub place_in : (names : Names) (d : Declared) (vs : List Variable) (k : ℕ) → place_of names d.name vs ≡ Some k
    → k < length vs
place_in names d vs k e = let h = place_within names d 0 vs k e in omega arith

-- ---- the places of names

by_name : (names : Names) (q : List ℕ) (n : ℕ) (vs : List Variable)
    → place_from n (λ v. agrees names q v.name) vs ≡ place_from n (agrees names q) (map (λ v. v.name) vs)
by_name names q n [] = refl
by_name names q n (v ∷ vs) = ap (cond (agrees names q v.name) (Some n)) (by_name names q (n + 1) vs)

-- a variable with another extent stands where it stood
pub same_place : (names : Names) (q : List ℕ) (vs : List Variable) (k : ℕ) (w x : Variable)
    → w.name ≡ (get_or vs k x).name → place_of names q (set vs k w) ≡ place_of names q vs
same_place names q vs k w x e =
    by_name names q 0 (set vs k w)
    ∙ ap (place_from 0 (agrees names q)) (map-set_same (λ (v : Variable). v.name) vs k w x e)
    ∙ sym (by_name names q 0 vs)

place_from-push : (names : Names) (q : List ℕ) (n m : ℕ) (vs : List Variable) (v : Variable) → m ≡ n + length vs →
    place_from n (λ v. agrees names q v.name) (vs ++ v ∷ [])
    ≡ option_or (place_from n (λ v. agrees names q v.name) vs) (cond (agrees names q v.name) (Some m) None)
place_from-push names q n m [] v e =
    let same : n ≡ m = omega arith in ap (λ k. cond (agrees names q v.name) (Some k) None) same
place_from-push names q n m (y ∷ ys) v e =
    elim (agrees names q y.name) as (λ b.
    cond b (Some n) (place_from (n + 1) (λ v. agrees names q v.name) (ys ++ v ∷ []))
    ≡ option_or (cond b (Some n) (place_from (n + 1) (λ v. agrees names q v.name) ys))
    (cond (agrees names q v.name) (Some m) None)) [
      | true ↦ refl
      | false ↦ place_from-push names q (n + 1) m ys v (omega arith)
    ]

inserted : (hit : Bool) (m : ℕ) (old : Option ℕ) → (hit ≡ true → old ≡ None)
    → cond hit (Some m) old ≡ option_or old (cond hit (Some m) None)
inserted true m old none = rw (none refl) refl
inserted false m None none = refl
inserted false m (Some k) none = refl

-- a key with a place, where its name has none
pub new_place : (names : Names) (q name : Bor (List ℕ)) (m : ℕ) (old new : List (Key × ℕ)) (vs : List Variable)
    (v : Variable) →
    ((p : Bor (List ℕ)) → lookup (same_key (key_of names p)) old ≡ place_of names p.now vs) →
    lookup (same_key (key_of names q)) new
    ≡ cond (same_key (key_of names name) (key_of names q)) (Some m) (lookup (same_key (key_of names q)) old) →
    place_of names name.now vs ≡ None → v.name ≡ name.now → m ≡ length vs →
    lookup (same_key (key_of names q)) new ≡ place_of names q.now (vs ++ v ∷ [])
new_place names q name m old new vs v was is none e len =
    let hit : same_key (key_of names name) (key_of names q) ≡ agrees names q.now v.name =
    keys_agree names name q ∙ (names_agree names).symm name.now q.now ∙ ap (agrees names q.now) (sym e) in
    is ∙ inserted (same_key (key_of names name) (key_of names q)) m (lookup (same_key (key_of names q)) old)
    (λ t. sym (same_value old (key_of names name) (key_of names q) t) ∙ was name ∙ none)
    ∙ ap (λ b. option_or (lookup (same_key (key_of names q)) old) (cond b (Some m) None)) hit
    ∙ ap (λ o. option_or o (cond (agrees names q.now v.name) (Some m) None)) (was q)
    ∙ sym (place_from-push names q.now 0 m vs v (omega (arith, len)))

-- ---- declarations, one after the other

abbrev pub declarations_left : List lent.Declared → ℕ → List Declared
declarations_left ds i = map declared_said (drop i ds)

next_met : (names : Names) (vs : List Variable) (ds : List lent.Declared) (i : ℕ) (x : lent.Declared) → i < length ds →
    x ≡ get_or ds i x →
    met names vs (declarations_left ds i)
    ≡ result_and_then (λ ws. met names ws (declarations_left ds (i + 1))) (meet names (declared_said x) vs)
next_met names vs ds i x h e =
    ap (λ (l : List lent.Declared). met names vs (map declared_said l))
    (drop_more ds i x h ∙ ap (λ y. y ∷ drop (i + 1) ds) (sym e))

pub met_more : (names : Names) (vs ws : List Variable) (ds : List lent.Declared) (i : ℕ) (x : lent.Declared)
    (all : Result (List Variable) ClashFault) → i < length ds → x ≡ get_or ds i x →
    met names vs (declarations_left ds i) ≡ all → meet names (declared_said x) vs ≡ Ok ws →
    met names ws (declarations_left ds (i + 1)) ≡ all
met_more names vs ws ds i x all h e was is =
    sym (next_met names vs ds i x h e ∙ ap (result_and_then (λ ws. met names ws (declarations_left ds (i + 1)))) is)
    ∙ was

pub met_fault : (names : Names) (vs : List Variable) (ds : List lent.Declared) (i : ℕ) (x : lent.Declared)
    (all : Result (List Variable) ClashFault) (f : ClashFault) → i < length ds → x ≡ get_or ds i x →
    met names vs (declarations_left ds i) ≡ all → meet names (declared_said x) vs ≡ Err f → all ≡ Err f
met_fault names vs ds i x all f h e was is =
    sym was ∙ next_met names vs ds i x h e ∙ ap (result_and_then (λ ws. met names ws (declarations_left ds (i + 1)))) is

pub met_last : (names : Names) (vs : List Variable) (ds : List lent.Declared) (i : ℕ)
    (all : Result (List Variable) ClashFault) → length ds ≤ i → met names vs (declarations_left ds i) ≡ all
    → all ≡ Ok vs
met_last names vs ds i all h was =
    sym was ∙ at_drop_all (λ (es : List lent.Declared). met names vs (map declared_said es)) ds i h

-- a clash of a part is one of the whole
pub clash-through : {A B : Type 0} (e : ClashFault) (r : Result A ClashFault) (all : Result B ClashFault) → IsClash e r
    → ((f : ClashFault) → r ≡ Err f → all ≡ Err f) → IsClash e all
clash-through (NearAndFar one two) r all h k = k (NearAndFar one two) h
clash-through (ElementSizes one two) r all h k = k (ElementSizes one two) h
clash-through Memory r all h k = tt
