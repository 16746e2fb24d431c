-- Wanted names, each once, one after the other.
use Rattle.std.proofs.Common.{◌≡◌, ℕ, ◌+◌, ◌<◌, ◌≤◌, Bool, true, false, cond, not, ◌&&◌, ◌||◌, nat_eq, List, [], ◌∷◌}
use Rattle.std.proofs.Common.{◌++◌, length, map, take, get_or, refl, ap, ap₂, sym, ◌∙◌, arith}
use Rattle.std.proofs.lemmas.List.{append-nil, length-map, map-append, take_all, take_more}
use Rattle.std.proofs.lemmas.List.Elements.{filter-append}
use Rattle.std.proofs.lemmas.List.Folds.{list_any-append}
use Rattle.std.specs.List.{filter, list_any}
use Rattle.omf_place.specs.declared.names.Names.{Names}
use Rattle.std.specs.Borrow.{Bor}
use Rattle.std.specs.Cmp.{nat_eq_equiv, unsigned_tied}
use Rattle.std.specs.declared.cmp.Ordering.{Ordering}
use Rattle.std.specs.declared.cmp.Ordering.TheVariants.{Less, Equal, Greater}
use Rattle.std.specs.Ordering.{is_eq, nat_cmp, ordering_then}
use Rattle.omf_keys.specs.Keys.{key_of, key_order, same_key}
use Rattle.omf_search.specs.inside.Met.{same_wanted, wanted_order}
use Rattle.omf_keys.specs.declared.key.Key.{Key}
use Rattle.omf_search.specs.declared.said.Wanted as held
use Rattle.omf_search.specs.declared.unmet.WantedKey.{WantedKey}
use Rattle.omf_search.specs.Missing.{distinct, is_same, missing_names}
use Rattle.omf_search.specs.Results.{wanted_said}
use Rattle.omf_search.specs.Said.{Module, Wanted, is_defined}
use Rattle.omf_search.specs.Wanted.{wanted_names}
use Rattle.omf_search.proofs.ChoiceSteps.{wanted_at, wanted_within}
use Rattle.omf_keys.proofs.Agreeing.{key_ties, keys_agree, names_agree}

both-equal : (a b : Ordering) → is_eq (ordering_then a b) ≡ (is_eq a && is_eq b)
both-equal Less b = refl
both-equal Equal b = refl
both-equal Greater b = refl

-- keys that stand at one place are one
pub wanted_stands : (x y : WantedKey) → is_eq (wanted_order x y) ≡ same_wanted x y
wanted_stands x y =
    both-equal (nat_cmp x.wanted_by y.wanted_by) (key_order x.key y.key)
    ∙ ap₂ (λ a b. a && b) (unsigned_tied x.wanted_by y.wanted_by) (sym (key_ties x.key y.key))

-- the names of some that were found, and the keys that were met
pub record IsFound (names : Names) (left : List Wanted) (missing : List held.Wanted) (known : WantedKey → Bool)
    : Type 0 where
  pub found : map wanted_said missing ≡ distinct names left
  pub met : (q : Bor (List ℕ)) (m : ℕ) → known (record { wanted_by = m; key = key_of names q })
      ≡ list_any (is_same names (record { name = q.now; wanted_by = m })) left

left_out : (seen same : Bool) (x : Wanted) (f : List Wanted → List Wanted) → f [] ≡ []
    → f (x ∷ []) ≡ cond (not same) (x ∷ []) [] → f (cond seen [] (x ∷ [])) ≡ cond (same || seen) [] (x ∷ [])
left_out true true x f none one = none
left_out true false x f none one = none
left_out false true x f none one = one
left_out false false x f none one = one

module _ (names : Names) where
  -- one more, which is new or one of those before
  pub distinct-push : (ws : List Wanted) (x : Wanted)
      → distinct names (ws ++ x ∷ []) ≡ distinct names ws ++ cond (list_any (is_same names x) ws) [] (x ∷ [])
  distinct-push [] x = refl
  distinct-push (w ∷ ws) x =
      let test : Wanted → Bool = λ v. not (is_same names v w) in
      ap (λ vs. w ∷ filter test vs) (distinct-push ws x)
      ∙ ap (λ vs. w ∷ vs) (filter-append test (distinct names ws) (cond (list_any (is_same names x) ws) [] (x ∷ [])))
      ∙ ap (λ vs. w ∷ (filter test (distinct names ws) ++ vs))
      (left_out (list_any (is_same names x) ws) (is_same names x w) x (filter test) refl refl)

  -- the names that modules want and none defines
  abbrev pub undefined : List Module → List Wanted → List Wanted
  undefined ms ws = filter (λ w. not (is_defined names ms w.name)) ws

  undefined-push : (ms : List Module) (ws : List Wanted) (w : Wanted) (b : Bool) → is_defined names ms w.name ≡ b
      → undefined ms (ws ++ w ∷ []) ≡ undefined ms ws ++ cond (not b) (w ∷ []) []
  undefined-push ms ws w b e =
      filter-append (λ w. not (is_defined names ms w.name)) ws (w ∷ [])
      ∙ ap (λ t. undefined ms ws ++ cond (not t) (w ∷ []) []) e

  -- a name that is defined adds nothing
  pub defined-turn : (ms : List Module) (ws : List Wanted) (i : ℕ) (w d : Wanted) → i < length ws → w ≡ get_or ws i d →
      is_defined names ms w.name ≡ true →
      undefined ms (take (i + 1) ws) ≡ undefined ms (take i ws)
  defined-turn ms ws i w d h e t =
      ap (undefined ms) (take_more ws i d h ∙ ap (λ v. take i ws ++ v ∷ []) (sym e))
      ∙ undefined-push ms (take i ws) w true t ∙ append-nil (undefined ms (take i ws))

  -- one that isn't stands behind the others
  pub undefined-turn : (ms : List Module) (ws : List Wanted) (i : ℕ) (w d : Wanted) → i < length ws →
      w ≡ get_or ws i d → is_defined names ms w.name ≡ false →
      undefined ms (take (i + 1) ws) ≡ undefined ms (take i ws) ++ w ∷ []
  undefined-turn ms ws i w d h e t =
      ap (undefined ms) (take_more ws i d h ∙ ap (λ v. take i ws ++ v ∷ []) (sym e))
      ∙ undefined-push ms (take i ws) w false t

  -- a wanted name as a key
  key-same : (q n : Bor (List ℕ)) (m k : ℕ)
      → same_wanted (record { wanted_by = k; key = key_of names n }) (record { wanted_by = m; key = key_of names q }) ≡
      is_same names (record { name = q.now; wanted_by = m }) (record { name = n.now; wanted_by = k })
  key-same q n m k =
      ap (λ b. b && same_key (key_of names n) (key_of names q)) (nat_eq_equiv.symm k m)
      ∙ ap (λ b. nat_eq m k && b) (keys_agree names n q ∙ (names_agree names).symm n.now q.now)

  -- one more key that is met
  pub met-turn : (q n : Bor (List ℕ)) (m k : ℕ) (left : List Wanted) (was here : Bool) →
      here
      ≡ cond
      (same_wanted (record { wanted_by = k; key = key_of names n }) (record { wanted_by = m; key = key_of names q }))
      true was →
      was ≡ list_any (is_same names (record { name = q.now; wanted_by = m })) left →
      here
      ≡ list_any (is_same names (record { name = q.now; wanted_by = m }))
      (left ++ record { name = n.now; wanted_by = k } ∷ [])
  met-turn q n m k left was here is e =
      let v : Wanted = record { name = q.now; wanted_by = m } in
      let w : Wanted = record { name = n.now; wanted_by = k } in
      is ∙ ap (λ b. cond b true was) (key-same q n m k) ∙ ap (λ b. cond (is_same names v w) true b) e
      ∙ either (is_same names v w) (list_any (is_same names v) left)
      ∙ sym (list_any-append (is_same names v) left (w ∷ []))
    where
      either : (hit any : Bool) → cond hit true any ≡ (any || (hit || false))
      either true true = refl
      either true false = refl
      either false true = refl
      either false false = refl

  -- a name that is missing
  module _ (ms : List Module) (items : List held.Wanted) (i : ℕ) (d : held.Wanted) (h : i < length items)
      (missed : is_defined names ms (get_or items i d).name.now ≡ false) where
    abbrev here : held.Wanted
    here = get_or items i d

    abbrev before : List Wanted
    before = undefined ms (take i (map wanted_said items))

    abbrev after : List Wanted
    after = undefined ms (take (i + 1) (map wanted_said items))

    grown : after ≡ before ++ wanted_said here ∷ []
    grown =
        undefined-turn ms (map wanted_said items) i (wanted_said here) (wanted_said d)
        (wanted_within items (map wanted_said items) i refl h) (wanted_at items (map wanted_said items) i refl h d)
        missed

    module _ (key : Key) (is_key : key ≡ key_of names here.name) (old new : WantedKey → Bool) (fresh : Bool)
        (met : (q : Bor (List ℕ)) (m : ℕ)
        → old (record { wanted_by = m; key = key_of names q })
        ≡ list_any (is_same names (record { name = q.now; wanted_by = m })) before)
        (added : fresh ≡ not (old (record { wanted_by = here.wanted_by; key = key })))
        (updated : (k : WantedKey)
        → new k ≡ cond (same_wanted (record { wanted_by = here.wanted_by; key = key }) k) true (old k)) where
      pub met_next : (q : Bor (List ℕ)) (m : ℕ)
          → new (record { wanted_by = m; key = key_of names q })
          ≡ list_any (is_same names (record { name = q.now; wanted_by = m })) after
      met_next q m =
          let asked : WantedKey = record { wanted_by = m; key = key_of names q } in
          let v : Wanted = record { name = q.now; wanted_by = m } in
          let step : new asked
          ≡ cond (same_wanted (record { wanted_by = here.wanted_by; key = key_of names here.name }) asked) true
          (old asked) =
          updated asked
          ∙ ap
          (λ (k : Key).
          let own : WantedKey = record { wanted_by = here.wanted_by; key = k } in
          cond (same_wanted own asked) true (old asked)) is_key in
          met-turn q here.name m here.wanted_by before (old asked) (new asked) step (met q m)
          ∙ ap (list_any (is_same names v)) (sym grown)

      fresh_is : fresh ≡ not (list_any (is_same names (wanted_said here)) before)
      fresh_is =
          added
          ∙ ap (λ (k : Key). let own : WantedKey = record { wanted_by = here.wanted_by; key = k } in not (old own))
          is_key ∙ ap not (met here.name here.wanted_by)

      pub found_new : (found : List Wanted) → found ≡ distinct names before → fresh ≡ true
          → found ++ wanted_said here ∷ [] ≡ distinct names after
      found_new found e t =
          let unseen : list_any (is_same names (wanted_said here)) before ≡ false =
          not-true (list_any (is_same names (wanted_said here)) before) (sym fresh_is ∙ t) in
          ap (λ ws. ws ++ wanted_said here ∷ []) e
          ∙ sym
          (ap (distinct names) grown ∙ distinct-push before (wanted_said here)
          ∙ ap (λ b. distinct names before ++ cond b [] (wanted_said here ∷ [])) unseen)
        where
          not-true : (b : Bool) → not b ≡ true → b ≡ false
          not-true true u = absurd (let v : false ≡ true = u in cc)
          not-true false u = refl

      pub found_old : (found : List Wanted) → found ≡ distinct names before → fresh ≡ false
          → found ≡ distinct names after
      found_old found e t =
          let seen : list_any (is_same names (wanted_said here)) before ≡ true =
          not-false (list_any (is_same names (wanted_said here)) before) (sym fresh_is ∙ t) in
          e ∙ sym
          (ap (distinct names) grown ∙ distinct-push before (wanted_said here)
          ∙ ap (λ b. distinct names before ++ cond b [] (wanted_said here ∷ [])) seen
          ∙ append-nil (distinct names before))
        where
          not-false : (b : Bool) → not b ≡ false → b ≡ true
          not-false true u = refl
          not-false false u = absurd (let v : true ≡ false = u in cc)

      pub found_next : (had now : List held.Wanted) → map wanted_said had ≡ distinct names before
          → now ≡ cond (old (record { wanted_by = here.wanted_by; key = key })) had (had ++ here ∷ [])
          → map wanted_said now ≡ distinct names after
      found_next had now e is = of (old (record { wanted_by = here.wanted_by; key = key })) added is
        where
          of : (b : Bool) → fresh ≡ not b → now ≡ cond b had (had ++ here ∷ [])
              → map wanted_said now ≡ distinct names after
          of true f is = ap (map wanted_said) is ∙ found_old (map wanted_said had) e f
          of false f is =
              ap (map wanted_said) is ∙ map-append wanted_said had (here ∷ [])
              ∙ found_new (map wanted_said had) e f

  -- with all wanted names met
  pub all_missing : (ms : List Module) (items : List held.Wanted) (i : ℕ) → length items ≤ i →
      map wanted_said items ≡ wanted_names names ms →
      distinct names (undefined ms (take i (map wanted_said items))) ≡ missing_names names ms
  all_missing ms items i h is =
      let past : length (map wanted_said items) ≤ i = (let len = length-map items wanted_said in omega arith) in
      ap (λ ws. distinct names (undefined ms ws)) (take_all i (map wanted_said items) past ∙ is)
