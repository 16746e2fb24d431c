-- The members that modules take, one after the other.
use Rattle.std.proofs.Common.{◌≡◌, ℕ, ◌+◌, ◌<◌, ◌≤◌, Bool, true, false, cond, not, ◌&&◌, ◌||◌, List, [], ◌∷◌, ◌++◌}
use Rattle.std.proofs.Common.{length, map, take, drop, get_or, slice_get, Option, Some, None, is_some, refl, ap, sym, subst, ◌∙◌}
use Rattle.std.proofs.Common.{append_assoc, arith}
use Rattle.std.proofs.lemmas.List.{get_or-map, length-map, take_all, take_more, take-append-drop}
use Rattle.std.proofs.lemmas.List.Folds.{find-append}
use Rattle.std.specs.List.{find}
use Rattle.std.specs.Option.{option_and_then, option_map, option_or}
use Rattle.omf_place.specs.declared.names.Names.{Names}
use Rattle.omf_search.specs.declared.said.Wanted as held_wanted
use Rattle.omf_search.specs.declared.searching.Found.{Found}
use Rattle.omf_search.specs.Places.{place_from}
use Rattle.omf_search.specs.Results.{wanted_said}
use Rattle.omf_search.specs.Said.{Module, Wanted, defines, is_defined, offers}
use Rattle.omf_search.specs.Search.{Choice, Member, choice, first_offering, next_choice, takes}
use Rattle.omf_search.specs.Searching.{choice_found}
use Rattle.omf_search.specs.Wanted.{wanted_names}
use Rattle.omf_search.proofs.Placing.{found_place}
use Rattle.omf_search.proofs.TakenSteps.{is_defined-push}

pub find-passes : {X : Type 0} (p : X → Bool) (xs : List X) (x : X) → find p xs ≡ Some x → p x ≡ true
find-passes p [] x e = absurd (let u : None ≡ Some x = e in cc)
find-passes p (y ∷ ys) x e =
    (elim (p y) as (λ b. p y ≡ b → cond b (Some y) (find p ys) ≡ Some x → p x ≡ true) [
      | true ↦ λ t u. let s : y ≡ x = cc in subst (λ z. p z ≡ true) s t
      | false ↦ λ t u. find-passes p ys x u
    ]) refl e

module _ (names : Names) (bs : List Member) where
  -- a member that is found offers the name
  pub offering-offers : (n : List ℕ) (b : Member) → first_offering names bs n ≡ Some b → offers names n b.says ≡ true
  offering-offers n b e = find-passes (λ b. offers names n b.says) bs b e

  pub takes-less : (ms : List Module) (m : Module) (w : Wanted) → takes names bs ms w ≡ false
      → takes names bs (ms ++ m ∷ []) w ≡ false
  takes-less ms m w e =
      (elim (is_defined names ms w.name) as (λ b.
      is_defined names ms w.name ≡ b → (not b && is_some (first_offering names bs w.name)) ≡ false
      → takes names bs (ms ++ m ∷ []) w ≡ false) [
        | true ↦
            λ t u.
            ap (λ b. not b && is_some (first_offering names bs w.name))
            (is_defined-push names ms m w.name ∙ ap (λ b. b || defines names w.name m) t)
        | false ↦
            λ t u.
            ap (λ b. not (is_defined names (ms ++ m ∷ []) w.name) && b) u
            ∙ and-false (not (is_defined names (ms ++ m ∷ []) w.name))
      ]) refl e
    where
      and-false : (b : Bool) → (b && false) ≡ false
      and-false true = refl
      and-false false = refl

  find-more : (ms : List Module) (ws : List Wanted) (i : ℕ) (w d : Wanted) → i < length ws → w ≡ get_or ws i d →
      find (takes names bs ms) (take i ws) ≡ None → takes names bs ms w ≡ false →
      find (takes names bs ms) (take (i + 1) ws) ≡ None
  find-more ms ws i w d h e none t =
      ap (find (takes names bs ms)) (take_more ws i d h ∙ ap (λ v. take i ws ++ v ∷ []) (sym e))
      ∙ find-append (takes names bs ms) (take i ws) (w ∷ [])
      ∙ ap (λ o. option_or o (find (takes names bs ms) (w ∷ []))) none
      ∙ ap (λ b. cond b (Some w) None) t

  -- a wanted name that takes nothing
  pub untaken : (ms : List Module) (i : ℕ) (w d : Wanted) → i < length (wanted_names names ms) →
      w ≡ get_or (wanted_names names ms) i d → find (takes names bs ms) (take i (wanted_names names ms)) ≡ None →
      None ≡ cond (is_defined names ms w.name) None (first_offering names bs w.name) →
      find (takes names bs ms) (take (i + 1) (wanted_names names ms)) ≡ None
  untaken ms i w d h e none is =
      find-more ms (wanted_names names ms) i w d h e none
      (by (is_defined names ms w.name) (first_offering names bs w.name) is)
    where
      by : (b : Bool) (o : Option Member) → None ≡ cond b None o → (not b && is_some o) ≡ false
      by true o u = refl
      by false None u = refl
      by false (Some x) u = cc

  -- a wanted name that takes a member
  module _ (ms : List Module) (i : ℕ) (w d : Wanted) (b : Member) (h : i < length (wanted_names names ms))
      (e : w ≡ get_or (wanted_names names ms) i d) (none : find (takes names bs ms) (take i (wanted_names names ms)) ≡ None)
      (is : Some b ≡ cond (is_defined names ms w.name) None (first_offering names bs w.name)) where
    pub not_offered : is_defined names ms w.name ≡ false
    not_offered = by (is_defined names ms w.name) is
      where
        by : (t : Bool) → Some b ≡ cond t None (first_offering names bs w.name) → t ≡ false
        by true u = absurd (let v : Some b ≡ None = u in cc)
        by false u = refl

    pub found : first_offering names bs w.name ≡ Some b
    found = sym (is ∙ ap (λ t. cond t None (first_offering names bs w.name)) not_offered)

    pub chosen_next : next_choice names bs ms ≡ Some (record { wanted = w; taken = b })
    chosen_next =
        let whole : wanted_names names ms ≡ take i (wanted_names names ms) ++ w ∷ drop (i + 1) (wanted_names names ms) =
        split i (wanted_names names ms) w d h e in
        let takes_it : takes names bs ms w ≡ true =
        ap (λ t. not t && is_some (first_offering names bs w.name)) not_offered ∙ ap is_some found in
        let first : find (takes names bs ms) (wanted_names names ms) ≡ Some w =
        ap (find (takes names bs ms)) whole
        ∙ find-append (takes names bs ms) (take i (wanted_names names ms)) (w ∷ drop (i + 1) (wanted_names names ms))
        ∙ ap (λ o. option_or o (find (takes names bs ms) (w ∷ drop (i + 1) (wanted_names names ms)))) none
        ∙ ap (λ t. cond t (Some w) (find (takes names bs ms) (drop (i + 1) (wanted_names names ms)))) takes_it in
        ap (option_and_then (choice names bs)) first ∙ ap (option_map (λ b. record { wanted = w; taken = b })) found
      where
        split : (i : ℕ) (ws : List Wanted) (w d : Wanted) → i < length ws → w ≡ get_or ws i d
            → ws ≡ take i ws ++ w ∷ drop (i + 1) ws
        split i ws w d h e =
            sym (take-append-drop (i + 1) ws)
            ∙ ap (λ front. front ++ drop (i + 1) ws) (take_more ws i d h ∙ ap (λ v. take i ws ++ v ∷ []) (sym e))
            ∙ append_assoc (take i ws) (w ∷ []) (drop (i + 1) ws)

  -- with all wanted names settled, nothing is taken
  pub ended : (ms : List Module) (i : ℕ) → length (wanted_names names ms) ≤ i
      → find (takes names bs ms) (take i (wanted_names names ms)) ≡ None → next_choice names bs ms ≡ None
  ended ms i h none =
      ap (option_and_then (choice names bs))
      (sym (ap (find (takes names bs ms)) (take_all i (wanted_names names ms) h)) ∙ none)

-- wanted names as the code holds them
module _ (items : List held_wanted.Wanted) (ws : List Wanted) (i : ℕ) (is : map wanted_said items ≡ ws)
    (h : i < length items) where
  pub wanted_at : (d : held_wanted.Wanted) → wanted_said (get_or items i d) ≡ get_or ws i (wanted_said d)
  wanted_at d =
      sym (ap (λ xs. get_or xs i (wanted_said d)) (sym is) ∙ get_or-map wanted_said items i d (wanted_said d) h)

  pub wanted_within : i < length ws
  wanted_within = let len : length items ≡ length ws = sym (length-map items wanted_said) ∙ ap length is in omega arith

pub wanted_past : (items : List held_wanted.Wanted) (ws : List Wanted) (i : ℕ) → map wanted_said items ≡ ws
    → length items ≤ i → length ws ≤ i
wanted_past items ws i is h =
    let len : length items ≡ length ws = sym (length-map items wanted_said) ∙ ap length is in omega arith

-- ---- a place among members

pub place_some : {X : Type 0} (n : ℕ) (p : X → Bool) (xs : List X) (k : ℕ) → place_from n p xs ≡ Some k
    → is_some (find p xs) ≡ true
place_some n p [] k e = absurd (let u : None ≡ Some k = e in cc)
place_some n p (x ∷ xs) k e =
    (elim (p x) as (λ b. cond b (Some n) (place_from (n + 1) p xs) ≡ Some k → is_some (cond b (Some x) (find p xs)) ≡ true)
    [ true ↦ λ u. refl | false ↦ λ u. place_some (n + 1) p xs k u ]) e

is-some : {X : Type 0} (o : Option X) → is_some o ≡ true → (x : X) × (o ≡ Some x)
is-some None e = absurd (let u : false ≡ true = e in cc)
is-some (Some x) e = (x, refl)

place-found : (is : Bool) (o : Option ℕ) (k : ℕ) → Some k ≡ cond is None o → (is ≡ false) × (o ≡ Some k)
place-found true o k e = absurd (let u : Some k ≡ None = e in cc)
place-found false o k e = (refl, sym e)

module _ (names : Names) (bs : List Member) (ms : List Module) where
  -- the member at a place, which a wanted name takes
  pub found_next : (i : ℕ) (w d : Wanted) (f : Found) → i < length (wanted_names names ms)
      → w ≡ get_or (wanted_names names ms) i d
      → find (takes names bs ms) (take i (wanted_names names ms)) ≡ None
      → w ≡ record { name = f.name.now; wanted_by = f.wanted_by }
      → Some f.member
      ≡ cond (is_defined names ms w.name) None (place_from 0 (λ (b : Member). offers names w.name b.says) bs)
      → choice_found bs (Some f) ≡ next_choice names bs ms
  found_next i w d f h e none own is =
      let test : Member → Bool = λ b. offers names w.name b.says in
      let both = place-found (is_defined names ms w.name) (place_from 0 test bs) f.member is in
      let at : first_offering names bs w.name ≡ slice_get bs f.member =
      found_place test bs (Some f.member) (sym both.1) in
      let there = is-some (find test bs) (place_some 0 test bs f.member both.1) in
      let chosen : next_choice names bs ms ≡ Some (record { wanted = w; taken = there.0 }) =
      chosen_next names bs ms i w d there.0 h e none
      (sym there.1 ∙ ap (λ t. cond t None (first_offering names bs w.name)) (sym both.0)) in
      ap
      (option_map (λ (b : Member).
      let c : Choice = record { wanted = record { name = f.name.now; wanted_by = f.wanted_by }; taken = b } in c))
      (sym at ∙ there.1)
      ∙ ap (λ (v : Wanted). Some (let c : Choice = record { wanted = v; taken = there.0 } in c)) (sym own) ∙ sym chosen

  -- a wanted name that takes none
  pub unfound_next : (i : ℕ) (w d : Wanted) → i < length (wanted_names names ms)
      → w ≡ get_or (wanted_names names ms) i d
      → find (takes names bs ms) (take i (wanted_names names ms)) ≡ None
      → None
      ≡ cond (is_defined names ms w.name) None (place_from 0 (λ (b : Member). offers names w.name b.says) bs)
      → find (takes names bs ms) (take (i + 1) (wanted_names names ms)) ≡ None
  unfound_next i w d h e none is =
      let test : Member → Bool = λ b. offers names w.name b.says in
      untaken names bs ms i w d h e none
      (by (is_defined names ms w.name) (place_from 0 test bs) (first_offering names bs w.name) is
      (λ u. found_place test bs None (sym u)))
    where
      by : (t : Bool) (o : Option ℕ) (f : Option Member) → None ≡ cond t None o → (o ≡ None → f ≡ None)
          → None ≡ cond t None f
      by true o f u g = refl
      by false o f u g = sym (g (sym u))
