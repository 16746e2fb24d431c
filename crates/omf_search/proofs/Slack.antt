-- What members can still bring: how many offer a name that no module defines.
use Rattle.std.proofs.Common.{◌≡◌, ℕ, suc, ◌+◌, ◌<◌, ◌≤◌, Bool, true, false, cond, not, ◌||◌, List, [], ◌∷◌, ◌++◌, length, Some}
use Rattle.std.proofs.Common.{None, refl, ap, sym, subst, ◌∙◌, append_assoc, arith}
use Rattle.std.proofs.lemmas.List.Folds.{list_any-append}
use Rattle.std.specs.List.{list_any}
use Rattle.omf_place.specs.Names.{agrees}
use Rattle.omf_place.specs.declared.names.Names.{Names}
use Rattle.omf_search.specs.Said.{Module, defines, is_defined, offers}
use Rattle.omf_search.specs.Search.{Choice, Member, first_offering, next_choice}
use Rattle.omf_keys.proofs.Agreeing.{names_agree}
use Rattle.omf_search.proofs.ChoiceLaws.{is_needed}
use Rattle.omf_search.proofs.TakenSteps.{is_defined-push}

module _ (names : Names) where
  -- some of these names is defined by no module
  abbrev pub brings : List Module → List (List ℕ) → Bool
  brings ms ns = list_any (λ n. not (is_defined names ms n)) ns

  abbrev weight : List Module → Member → ℕ
  weight ms b = cond (brings ms b.says.offered) (1) 0

  abbrev pub slack : List Module → List Member → ℕ
  slack ms [] = 0
  slack ms (b ∷ bs) = weight ms b + slack ms bs

  -- names that agree are defined alike
  pub is_defined-agrees : (ms : List Module) (n o : List ℕ) → agrees names n o ≡ true
      → is_defined names ms n ≡ is_defined names ms o
  is_defined-agrees ms n o e =
      let same : agrees names n ≡ agrees names o = λ j. λ x. (names_agree names).congr n o x e j in
      ap (λ t. list_any (λ (m : Module). list_any t m.offered || list_any t m.communals) ms) same

  still_defined : (ms : List Module) (m : Module) (n : List ℕ) → is_defined names ms n ≡ true
      → is_defined names (ms ++ m ∷ []) n ≡ true
  still_defined ms m n e = is_defined-push names ms m n ∙ ap (λ b. b || defines names n m) e

  brings-less : (ms : List Module) (m : Module) (ns : List (List ℕ)) → brings ms ns ≡ false
      → brings (ms ++ m ∷ []) ns ≡ false
  brings-less ms m [] e = refl
  brings-less ms m (n ∷ ns) e =
      (elim (is_defined names ms n) as (λ b.
      is_defined names ms n ≡ b → (not b || brings ms ns) ≡ false
      → (not (is_defined names (ms ++ m ∷ []) n) || brings (ms ++ m ∷ []) ns) ≡ false) [
        | true ↦ λ t f. ap (λ b. not b || brings (ms ++ m ∷ []) ns) (still_defined ms m n t) ∙ brings-less ms m ns f
        | false ↦ λ t f. cc
      ]) refl e

  weight-less : (ms : List Module) (m : Module) (b : Member) → weight (ms ++ m ∷ []) b ≤ weight ms b
  weight-less ms m b =
      (elim (brings ms b.says.offered) as (λ t.
      brings ms b.says.offered ≡ t → weight (ms ++ m ∷ []) b ≤ cond t (1) 0) [
        | true ↦ λ t.
            (elim (brings (ms ++ m ∷ []) b.says.offered) as (λ u.
            cond u (1) 0 ≤ 1) [ true ↦ omega arith | false ↦ omega arith ])
        | false ↦
            λ t.
            let e : weight (ms ++ m ∷ []) b ≡ 0 =
            ap (λ u. cond u (1) 0) (brings-less ms m b.says.offered t) in omega arith
      ]) refl

  slack-less : (ms : List Module) (m : Module) (bs : List Member) → slack (ms ++ m ∷ []) bs ≤ slack ms bs
  slack-less ms m [] = omega arith
  slack-less ms m (b ∷ bs) = let f = weight-less ms m b in let g = slack-less ms m bs in omega arith

  -- a module that offers a name which none defines brings it
  brings_it : (ms : List Module) (n : List ℕ) (ns : List (List ℕ)) → list_any (agrees names n) ns ≡ true
      → is_defined names ms n ≡ false → brings ms ns ≡ true
  brings_it ms n [] e f = cc
  brings_it ms n (o ∷ ns) e f =
      (elim (agrees names n o) as (λ t.
      agrees names n o ≡ t → (t || list_any (agrees names n) ns) ≡ true → brings ms (o ∷ ns) ≡ true) [
        | true ↦ λ t u. ap (λ b. not b || brings ms ns) (sym (is_defined-agrees ms n o t) ∙ f)
        | false ↦
            λ t u.
            ap (λ b. not (is_defined names ms o) || b) (brings_it ms n ns u f) ∙ or-true (not (is_defined names ms o))
      ]) refl e
    where
      or-true : (b : Bool) → (b || true) ≡ true
      or-true true = refl
      or-true false = refl

  -- and once it is taken, it brings nothing
  brings_none : (ms : List Module) (m : Module) (front ns : List (List ℕ)) → m.offered ≡ front ++ ns
      → brings (ms ++ m ∷ []) ns ≡ false
  brings_none ms m front [] e = refl
  brings_none ms m front (n ∷ ns) e =
      let own : defines names n m ≡ true =
      ap (λ b. b || list_any (agrees names n) m.communals)
      (ap (list_any (agrees names n)) e ∙ list_any-append (agrees names n) front (n ∷ ns)
      ∙ ap (λ b. list_any (agrees names n) front || (b || list_any (agrees names n) ns)) ((names_agree names).refl n)
      ∙ or-true (list_any (agrees names n) front)) in
      let there : is_defined names (ms ++ m ∷ []) n ≡ true =
      is_defined-push names ms m n ∙ ap (λ b. is_defined names ms n || b) own ∙ or-true (is_defined names ms n) in
      ap (λ b. not b || brings (ms ++ m ∷ []) ns) there
      ∙ brings_none ms m (front ++ n ∷ []) ns (e ∙ sym (append_assoc front (n ∷ []) ns))
    where
      or-true : (b : Bool) → (b || true) ≡ true
      or-true true = refl
      or-true false = refl

  -- the member that a name takes
  pub slack-taken : (ms : List Module) (bs : List Member) (n : List ℕ) (b : Member) →
      first_offering names bs n ≡ Some b → is_defined names ms n ≡ false →
      slack (ms ++ b.says ∷ []) bs + 1 ≤ slack ms bs
  slack-taken ms [] n b e f = absurd (let u : None ≡ Some b = e in cc)
  slack-taken ms (x ∷ xs) n b e f =
      (elim (offers names n x.says) as (λ t.
      offers names n x.says ≡ t → cond t (Some x) (first_offering names xs n) ≡ Some b →
      slack (ms ++ b.says ∷ []) (x ∷ xs) + 1 ≤ slack ms (x ∷ xs)) [
        | true ↦ λ t u.
            let is : x ≡ b = cc in
            let before : weight ms x ≡ 1 =
            ap (λ v. cond v 1 0) (brings_it ms n x.says.offered t f) in
            let after : weight (ms ++ x.says ∷ []) x ≡ 0 =
            ap (λ v. cond v 1 0) (brings_none ms x.says [] x.says.offered refl) in
            let others = slack-less ms x.says xs in
            subst (λ (y : Member). slack (ms ++ y.says ∷ []) (x ∷ xs) + 1 ≤ slack ms (x ∷ xs)) is
            (omega arith)
        | false ↦ λ t u.
            let rest = slack-taken ms xs n b u f in
            let here = weight-less ms b.says x in
            omega arith
      ]) refl e

  -- a choice takes away what it brought
  pub slack-chosen : (ms : List Module) (bs : List Member) (c : Choice) → next_choice names bs ms ≡ Some c
      → slack (ms ++ c.taken.says ∷ []) bs < slack ms bs
  slack-chosen ms bs c e =
      let why = is_needed names bs ms c e in
      let less = slack-taken ms bs c.wanted.name c.taken why.first why.missing in
      omega arith

  -- no more than there are members
  pub slack-most : (ms : List Module) (bs : List Member) → slack ms bs ≤ length bs
  slack-most ms [] = omega arith
  slack-most ms (b ∷ bs) =
      let rest = slack-most ms bs in
      (elim (brings ms b.says.offered) as (λ t. cond t 1 0 + slack ms bs ≤ suc (length bs)) [
        | true ↦ omega (arith, rest)
        | false ↦ omega (arith, rest)
      ])
