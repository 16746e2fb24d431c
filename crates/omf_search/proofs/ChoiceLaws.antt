-- Laws of the members that modules take.
use Rattle.std.proofs.Common.{◌≡◌, ℕ, zero, suc, ◌<◌, Bool, true, false, cond, not, ◌&&◌, ◌||◌, List, [], ◌∷◌, ◌++◌}
use Rattle.std.proofs.Common.{length, get_or, map, Option, Some, None, is_some, refl, ap, sym, subst, ◌∙◌, append_assoc}
use Rattle.std.proofs.Common.{arith}
use Rattle.std.proofs.lemmas.List.{append-nil, map-append}
use Rattle.std.proofs.lemmas.List.Elements.{Contains-append_left, Contains-append_right, Contains-push}
use Rattle.std.proofs.lemmas.List.Folds.{list_any-append}
use Rattle.std.specs.List.{Contains, find, list_any}
use Rattle.std.specs.Option.{option_and_then, option_map}
use Rattle.omf_place.specs.Names.{agrees}
use Rattle.omf_place.specs.declared.names.Names.{Names}
use Rattle.omf_search.specs.Laws.{IsNeeded, joined}
use Rattle.omf_search.specs.Said.{Module, Wanted, defines, is_defined}
use Rattle.omf_search.specs.Search.{Choice, Chooses, Member, choice, first_offering, next_choice, takes}
use Rattle.omf_search.specs.Wanted.{wanted_names}
use Rattle.omf_search.proofs.ChoiceSteps.{offering-offers, find-passes}

find-contained : {X : Type 0} (p : X → Bool) (xs : List X) (x : X) → find p xs ≡ Some x → Contains xs x
find-contained p [] x e = absurd (let u : None ≡ Some x = e in cc)
find-contained p (y ∷ ys) x e =
    (elim (p y) as (λ b. cond b (Some y) (find p ys) ≡ Some x → Contains (y ∷ ys) x) [
      | true ↦
          λ u.
          let s : y ≡ x = cc in
          subst (λ z. Contains (y ∷ ys) z) s (Contains-append_left (y ∷ []) ys y (Contains-push [] y))
      | false ↦ λ u. Contains-append_right (y ∷ []) ys x (find-contained p ys x u)
    ]) e

find-fails : {X : Type 0} (p : X → Bool) (xs : List X) (k : ℕ) (x : X) → find p xs ≡ None → k < length xs
    → get_or xs k x ≡ x → p x ≡ false
find-fails p [] k x none h e = absurd (omega arith)
find-fails p (y ∷ ys) zero x none h e =
    (elim (p y) as (λ b. p y ≡ b → cond b (Some y) (find p ys) ≡ None → p x ≡ false) [
      | true ↦ λ t u. cc
      | false ↦ λ t u. let is : y ≡ x = e in subst (λ z. p z ≡ false) is t
    ]) refl none
find-fails p (y ∷ ys) (suc k) x none h e =
    (elim (p y) as (λ b. cond b (Some y) (find p ys) ≡ None → p x ≡ false) [
      | true ↦ λ u. cc
      | false ↦ λ u. let below : k < length ys = omega arith in find-fails p ys k x u below e
    ]) none

module _ (names : Names) (bs : List Member) where
  chosen_first : (w : Wanted) (c : Choice) → choice names bs w ≡ Some c
      → (w ≡ c.wanted) × (first_offering names bs w.name ≡ Some c.taken)
  chosen_first w c e =
      (elim (first_offering names bs w.name) as (λ (o : Option Member).
      first_offering names bs w.name ≡ o →
      option_map (λ (b : Member). let r : Choice = record { wanted = w; taken = b } in r) o ≡ Some c →
      (w ≡ c.wanted) × (first_offering names bs w.name ≡ Some c.taken)) [
        | None ↦ λ s u. absurd (let v : None ≡ Some c = u in cc)
        | Some b ↦ λ s u.
            let v : Some (let r : Choice = record { wanted = w; taken = b } in r) ≡ Some c = u in
            let is : (let r : Choice = record { wanted = w; taken = b } in r) ≡ c = cc in
            (ap (λ (x : Choice). x.wanted) is, s ∙ ap (λ (x : Choice). Some x.taken) is)
      ]) refl e

  pub is_needed : (ms : List Module) (c : Choice) → next_choice names bs ms ≡ Some c → IsNeeded names bs ms c
  is_needed ms c e =
      (elim (find (takes names bs ms) (wanted_names names ms)) as (λ (o : Option Wanted).
      find (takes names bs ms) (wanted_names names ms) ≡ o → option_and_then (choice names bs) o ≡ Some c
      → IsNeeded names bs ms c) [
        | None ↦ λ s u. absurd (let v : None ≡ Some c = u in cc)
        | Some w ↦ λ s u.
            let first = chosen_first w c u in
            let opens : takes names bs ms w ≡ true = find-passes (takes names bs ms) (wanted_names names ms) w s in
            record {
              wanted =
                  subst (Contains (wanted_names names ms)) first.0 (find-contained (takes names bs ms) (wanted_names names ms) w s);
              missing =
                  subst (λ (v : Wanted). is_defined names ms v.name ≡ false) first.0
                  (not_defined (is_defined names ms w.name) (is_some (first_offering names bs w.name)) opens);
              first = subst (λ (v : Wanted). first_offering names bs v.name ≡ Some c.taken) first.0 first.1;
            }
      ]) refl e
    where
      not_defined : (b t : Bool) → (not b && t) ≡ true → b ≡ false
      not_defined true t u = absurd (let v : false ≡ true = u in cc)
      not_defined false t u = refl

  pub only : (ms : List Module) (cs ds : List Choice) → Chooses names bs ms cs → Chooses names bs ms ds → cs ≡ ds
  only ms [] [] p q = refl
  only ms [] (d ∷ ds) p q = absurd (let u : None ≡ Some d = sym p ∙ q.0 in cc)
  only ms (c ∷ cs) [] p q = absurd (let u : None ≡ Some c = sym q ∙ p.0 in cc)
  only ms (c ∷ cs) (d ∷ ds) p q =
      let u : Some c ≡ Some d = sym p.0 ∙ q.0 in
      let e : c ≡ d = cc in
      let rest : cs ≡ ds =
      only (ms ++ c.taken.says ∷ []) cs ds p.1
      (subst (λ (x : Choice). Chooses names bs (ms ++ x.taken.says ∷ []) ds) (sym e) q.1) in
      λ i. e i ∷ rest i

  pub needed : (ms : List Module) (before : List Choice) (c : Choice) (after : List Choice)
      → Chooses names bs ms (before ++ c ∷ after) → IsNeeded names bs (joined ms before) c
  needed ms [] c after p = subst (λ ns. IsNeeded names bs ns c) (sym (append-nil ms)) (is_needed ms c p.0)
  needed ms (b ∷ before) c after p =
      subst (λ ns. IsNeeded names bs ns c) (append_assoc ms (b.taken.says ∷ []) (map (λ c. c.taken.says) before))
      (needed (ms ++ b.taken.says ∷ []) before c after p.1)

  none_next : (ms : List Module) → next_choice names bs ms ≡ None → find (takes names bs ms) (wanted_names names ms) ≡ None
  none_next ms e =
      (elim (find (takes names bs ms) (wanted_names names ms)) as (λ (o : Option Wanted).
      find (takes names bs ms) (wanted_names names ms) ≡ o → option_and_then (choice names bs) o ≡ None → o ≡ None) [
        | None ↦ λ s u. refl
        | Some w ↦ λ s u. absurd (by w (find-passes (takes names bs ms) (wanted_names names ms) w s) u)
      ]) refl e
    where
      by : (w : Wanted) → takes names bs ms w ≡ true → choice names bs w ≡ None → ⊥
      by w t u =
          (elim (first_offering names bs w.name) as (λ (o : Option Member).
          (not (is_defined names ms w.name) && is_some o) ≡ true
          → option_map (λ (b : Member). let r : Choice = record { wanted = w; taken = b } in r) o ≡ None → ⊥) [
            | None ↦ λ s v. and-false (not (is_defined names ms w.name)) s
            | Some b ↦ λ s v. cc
          ]) t u
        where
          and-false : (b : Bool) → (b && false) ≡ true → ⊥
          and-false true v = cc
          and-false false v = cc

  unfound : (ms : List Module) (w : Wanted) → takes names bs ms w ≡ false → is_defined names ms w.name ≡ false
      → first_offering names bs w.name ≡ None
  unfound ms w t f =
      by (first_offering names bs w.name) (sym (ap (λ b. not b && is_some (first_offering names bs w.name)) f) ∙ t)
    where
      by : (o : Option Member) → is_some o ≡ false → o ≡ None
      by None u = refl
      by (Some b) u = cc

  pub closed : (ms : List Module) (cs : List Choice) (w : Wanted) → Chooses names bs ms cs →
      Contains (wanted_names names (joined ms cs)) w →
      is_defined names (joined ms cs) w.name ≡ false → first_offering names bs w.name ≡ None
  closed ms [] w p at missing =
      let whole = append-nil ms in
      let there : Contains (wanted_names names ms) w = subst (λ ns. Contains (wanted_names names ns) w) whole at in
      unfound ms w (find-fails (takes names bs ms) (wanted_names names ms) there.0 w (none_next ms p) there.1 there.2)
      (subst (λ ns. is_defined names ns w.name ≡ false) whole missing)
  closed ms (c ∷ cs) w p at missing =
      let same = append_assoc ms (c.taken.says ∷ []) (map (λ c. c.taken.says) cs) in
      closed (ms ++ c.taken.says ∷ []) cs w p.1 (subst (λ ns. Contains (wanted_names names ns) w) (sym same) at)
      (subst (λ ns. is_defined names ns w.name ≡ false) (sym same) missing)

  -- a member that was taken defines what it offers from then on
  pub once : (ms : List Module) (before : List Choice) (c : Choice) (between : List Choice) (d : Choice)
      (after : List Choice) →
      Chooses names bs ms ((before ++ c ∷ between) ++ d ∷ after) → c.taken ≡ d.taken → ⊥
  once ms before c between d after p e =
      let why = needed ms (before ++ c ∷ between) d after p in
      let says : Choice → Module = λ c. c.taken.says in
      let own : defines names d.wanted.name c.taken.says ≡ true =
      ap (λ (b : Member). defines names d.wanted.name b.says) e
      ∙ ap (λ b. b || list_any (agrees names d.wanted.name) d.taken.says.communals)
      (offering-offers names bs d.wanted.name d.taken why.first) in
      let test : Module → Bool = defines names d.wanted.name in
      let there : is_defined names (joined ms (before ++ c ∷ between)) d.wanted.name ≡ true =
      list_any-append test ms (map says (before ++ c ∷ between))
      ∙ ap (λ xs. list_any test ms || list_any test xs) (map-append says before (c ∷ between))
      ∙ ap (λ b. list_any test ms || b) (list_any-append test (map says before) (map says (c ∷ between)))
      ∙ ap (λ b. list_any test ms || (list_any test (map says before) || (b || list_any test (map says between)))) own
      ∙ ap (λ b. list_any test ms || b) (or-true (list_any test (map says before)))
      ∙ or-true (list_any test ms) in
      let u : true ≡ false = sym there ∙ why.missing in
      cc
    where
      or-true : (b : Bool) → (b || true) ≡ true
      or-true true = refl
      or-true false = refl
