-- Each name has one variable, of the greatest length that is asked for.
use Rattle.std.proofs.Common.{◌≡◌, ℕ, true, false, cond, eqb, max, inl, inr, ◌⊎◌, List, [], ◌∷◌, ◌++◌, Ok, Err, refl}
use Rattle.std.proofs.Common.{ap, sym, subst, ◌∙◌, append_assoc, arith}
use Rattle.std.proofs.lemmas.Bool.{cases_lt, eqb-true}
use Rattle.std.proofs.lemmas.List.{append-nil}
use Rattle.std.specs.declared.result.Result.{Result}
use Rattle.std.specs.List.{AllByRecursion}
use Rattle.omf_library.specs.Members.{joined}
use Rattle.omf_library.specs.Records.{result_and_then}
use Rattle.omf_place.specs.Names.{agrees}
use Rattle.omf_place.specs.declared.names.Names.{Names}
use Rattle.omf_communal.specs.declared.declarations.Extent.{Extent}
use Rattle.omf_communal.specs.declared.declarations.Extent.TheVariants.{Near, Far}
use Rattle.omf_communal.specs.declared.fault.ClashFault.{ClashFault}
use Rattle.omf_communal.specs.declared.fault.ClashFault.TheVariants.{ElementSizes}
use Rattle.omf_communal.specs.declared.declarations.Whose.{Whose}
use Rattle.omf_communal.specs.Modules.{Declared, wanted}
use Rattle.omf_communal.specs.Deciding.{Variable, fresh, greater, meet, met, widened}
use Rattle.omf_communal.specs.Once.{Any, HaveOwnNames, AreOf, AreOnce, AsksAll, IsNoLess, Serves}
use Rattle.omf_keys.proofs.Agreeing.{names_agree}

-- ---- lists

All-all : {X : Type 0} (P Q : X → Type 0) (xs : List X) → ((x : X) → P x → Q x) → AllByRecursion P xs
    → AllByRecursion Q xs
All-all P Q [] f h = tt
All-all P Q (x ∷ xs) f h = (f x h.0, All-all P Q xs f h.1)

All-append : {X : Type 0} (P : X → Type 0) (xs ys : List X) → AllByRecursion P xs → AllByRecursion P ys
    → AllByRecursion P (xs ++ ys)
All-append P [] ys h k = k
All-append P (x ∷ xs) ys h k = (h.0, All-append P xs ys h.1 k)

Any-front : {X : Type 0} (P : X → Type 0) (xs ys : List X) → Any P xs → Any P (xs ++ ys)
Any-front P [] ys h = absurd h
Any-front P (x ∷ xs) ys (inl h) = inl h
Any-front P (x ∷ xs) ys (inr h) = inr (Any-front P xs ys h)

Any-last : {X : Type 0} (P : X → Type 0) (xs : List X) (y : X) → P y → Any P (xs ++ y ∷ [])
Any-last P [] y h = inl h
Any-last P (x ∷ xs) y h = inr (Any-last P xs y h)

-- ---- extents

pub same : (e : Extent) → IsNoLess e e
same (Near n) = omega arith
same (Far n s) = (refl, omega arith)

between : (d e f : Extent) → IsNoLess d e → IsNoLess e f → IsNoLess d f
between (Near a) (Near b) (Near c) h k = omega (arith, h, k)
between (Far a s) (Far b t) (Far c u) h k = (h.0 ∙ k.0, omega (arith, h.1, k.1))
between (Near a) (Far b t) f h k = absurd h
between (Far a s) (Near b) f h k = absurd h
between (Near a) (Near b) (Far c u) h k = absurd k
between (Far a s) (Far b t) (Near c) h k = absurd k

-- the greater of two is no less than either, and is one of them
record IsGreater (one two g : Extent) : Type 0 where
  first : IsNoLess g one
  second : IsNoLess g two
  either : (g ≡ one) ⊎ (g ≡ two)

greater-is : (w : Whose) (one : Extent) (x : Whose) (two g : Extent) → greater w one x two ≡ Ok g → IsGreater one two g
greater-is w (Near a) x (Near b) g e =
    let is : Near (max a b) ≡ g = cc in
    subst (IsGreater (Near a) (Near b)) is (record {
      first = omega arith;
      second = omega arith;
      either = elim (max_is a b) [ inl h ↦ inl (ap Near h) | inr h ↦ inr (ap Near h) ];
    })
  where
    max_is : (a b : ℕ) → (max a b ≡ a) ⊎ (max a b ≡ b)
    max_is a b = elim (cases_lt a b) [ inl lt ↦ inr (omega arith) | inr le ↦ inl (omega arith) ]
greater-is w (Far a s) x (Far b t) g e =
    (elim (eqb s t) as (λ c.
    eqb s t ≡ c → cond c (Ok (Far (max a b) s)) (Err (ElementSizes w x)) ≡ Ok g → IsGreater (Far a s) (Far b t) g) [
      | true ↦ λ q u.
          let one : s ≡ t = eqb-true _ _ q in
          let is : Far (max a b) s ≡ g = cc in
          subst (IsGreater (Far a s) (Far b t)) is (record {
            first = (refl, omega arith);
            second = (one, omega arith);
            either = elim (max_is a b) [
              | inl h ↦ inl (ap (λ n. Far n s) h)
              | inr h ↦ inr (ap (λ n. Far n s) h ∙ ap (Far b) one)
            ];
          })
      | false ↦ λ q u. absurd (cc)
    ]) refl e
  where
    max_is : (a b : ℕ) → (max a b ≡ a) ⊎ (max a b ≡ b)
    max_is a b = elim (cases_lt a b) [ inl lt ↦ inr (omega arith) | inr le ↦ inl (omega arith) ]
greater-is w (Near a) x (Far b t) g e = absurd (cc)
greater-is w (Far a s) x (Near b) g e = absurd (cc)

-- ---- one declaration more of a variable

record IsWidened (v : Variable) (d : Declared) (w : Variable) : Type 0 where
  name : w.name ≡ v.name
  extent : IsGreater v.extent d.extent w.extent

widened-is : (v : Variable) (d : Declared) (w : Variable) → widened v d ≡ Ok w → IsWidened v d w
widened-is v d w e =
    (elim (greater v.first v.extent d.whose d.extent) as (λ r. greater v.first v.extent d.whose d.extent ≡ r →
    result_and_then
    (λ x. let u : Result Variable ClashFault = Ok (record { name = v.name; extent = x; first = v.first }) in u) r ≡ Ok w
    → IsWidened v d w) [
      | Ok x ↦ λ g u.
          let made : Variable = record { name = v.name; extent = x; first = v.first } in
          let r : Result Variable ClashFault = Ok made in
          let q : r ≡ Ok w = u in
          let is : made ≡ w = cc in
          subst (IsWidened v d) is (record { name = refl; extent = greater-is v.first v.extent d.whose d.extent x g })
      | Err f ↦ λ g u. absurd (cc)
    ]) refl e

-- ---- one declaration more

module _ (names : Names) (d : Declared) where
  -- what `meet` makes of variables
  data Met : List Variable → List Variable → Type 0 where
    IsNew : Met [] (fresh d ∷ [])
    IsHere : (v w : Variable) (vs : List Variable) → agrees names d.name v.name ≡ true → IsWidened v d w
        → Met (v ∷ vs) (w ∷ vs)
    IsLater : (v : Variable) (vs ws : List Variable) → agrees names d.name v.name ≡ false → Met vs ws
        → Met (v ∷ vs) (v ∷ ws)

  meet-is : (vs ws : List Variable) → meet names d vs ≡ Ok ws → Met vs ws
  meet-is [] ws e = let is : fresh d ∷ [] ≡ ws = cc in subst (Met []) is IsNew
  meet-is (v ∷ vs) ws e =
      (elim (agrees names d.name v.name) as (λ b.
      agrees names d.name v.name ≡ b
      → cond b (result_and_then (λ w. Ok (w ∷ vs)) (widened v d)) (joined (v ∷ []) (meet names d vs)) ≡ Ok ws
      → Met (v ∷ vs) ws) [
        | true ↦ λ t u. here t (widened v d) refl u
        | false ↦ λ t u. later t (meet names d vs) refl u (λ xs h. meet-is vs xs h)
      ]) refl e
    where
      here : agrees names d.name v.name ≡ true → (r : Result Variable ClashFault) → widened v d ≡ r
          → result_and_then (λ w. Ok (w ∷ vs)) r ≡ Ok ws → Met (v ∷ vs) ws
      here t (Ok w) h u = let is : w ∷ vs ≡ ws = cc in subst (Met (v ∷ vs)) is (IsHere v w vs t (widened-is v d w h))
      here t (Err f) h u = absurd (cc)

      later : agrees names d.name v.name ≡ false → (r : Result (List Variable) ClashFault) → meet names d vs ≡ r →
          joined (v ∷ []) r ≡ Ok ws →
          ((xs : List Variable) → meet names d vs ≡ Ok xs → Met vs xs) → Met (v ∷ vs) ws
      later t (Ok xs) h u k = let is : v ∷ xs ≡ ws = cc in subst (Met (v ∷ vs)) is (IsLater v vs xs t (k xs h))
      later t (Err f) h u k = absurd (cc)

  -- the declaration is served
  serves_it : (vs ws : List Variable) → Met vs ws → Any (Serves names d) ws
  serves_it vs ws IsNew = inl (record { name = (names_agree names).refl d.name; extent = same d.extent })
  serves_it vs ws (IsHere v w us t h) =
      inl (record { name = ap (agrees names d.name) h.name ∙ t; extent = h.extent.second })
  serves_it vs ws (IsLater v us xs t m) = inr (serves_it us xs m)

  -- another one still is
  still_served : (e : Declared) (vs ws : List Variable) → Met vs ws → Any (Serves names e) vs → Any (Serves names e) ws
  still_served e vs ws IsNew s = absurd s
  still_served e vs ws (IsHere v w us t h) (inl s) =
      inl (record {
        name = ap (agrees names e.name) h.name ∙ s.name;
        extent = between w.extent v.extent e.extent h.extent.first s.extent;
      })
  still_served e vs ws (IsHere v w us t h) (inr s) = inr s
  still_served e vs ws (IsLater v us xs t m) (inl s) = inl s
  still_served e vs ws (IsLater v us xs t m) (inr s) = inr (still_served e us xs m s)

  Any-map : (v w : Variable) (xs : List Declared) → ((x : Declared) → AsksAll names v x → AsksAll names w x)
      → Any (AsksAll names v) xs → Any (AsksAll names w) xs
  Any-map v w [] f s = absurd s
  Any-map v w (x ∷ xs) f (inl s) = inl (f x s)
  Any-map v w (x ∷ xs) f (inr s) = inr (Any-map v w xs f s)

  here_asked : (es : List Declared) (v w : Variable) → agrees names d.name v.name ≡ true → IsWidened v d w
      → Any (AsksAll names v) es → Any (AsksAll names w) (es ++ d ∷ [])
  here_asked es v w t h a =
      elim h.extent.either [
        | inl e ↦
            Any-map v w (es ++ d ∷ [])
            (λ x s. record { name = ap (agrees names x.name) h.name ∙ s.name; extent = e ∙ s.extent })
            (Any-front (AsksAll names v) es (d ∷ []) a)
        | inr e ↦ Any-last (AsksAll names w) es d (record { name = ap (agrees names d.name) h.name ∙ t; extent = e })
      ]

  -- each variable has what is asked for
  still_asked : (es : List Declared) (vs ws : List Variable) → Met vs ws
      → AllByRecursion (λ v. Any (AsksAll names v) es) vs
      → AllByRecursion (λ v. Any (AsksAll names v) (es ++ d ∷ [])) ws
  still_asked es vs ws IsNew a =
      (Any-last (AsksAll names (fresh d)) es d (record { name = (names_agree names).refl d.name; extent = refl }), tt)
  still_asked es vs ws (IsHere v w us t h) a = (
    here_asked es v w t h a.0,
    All-all (λ x. Any (AsksAll names x) es) (λ x. Any (AsksAll names x) (es ++ d ∷ [])) us
        (λ x s. Any-front (AsksAll names x) es (d ∷ []) s) a.1,
  )
  still_asked es vs ws (IsLater v us xs t m) a =
      (Any-front (AsksAll names v) es (d ∷ []) a.0, still_asked es us xs m a.1)

  -- what holds of each name, and of the declaration's
  all_names : (P : List ℕ → Type 0) (vs ws : List Variable) → Met vs ws → P d.name → AllByRecursion (λ v. P v.name) vs
      → AllByRecursion (λ v. P v.name) ws
  all_names P vs ws IsNew p h = (p, tt)
  all_names P vs ws (IsHere v w us t k) p h = (subst P (sym k.name) h.0, h.1)
  all_names P vs ws (IsLater v us xs t m) p h = (h.0, all_names P us xs m p h.1)

  still_apart : (vs ws : List Variable) → Met vs ws → HaveOwnNames names vs → HaveOwnNames names ws
  still_apart vs ws IsNew a = (tt, tt)
  still_apart vs ws (IsHere v w us t h) a =
      (subst (λ n. AllByRecursion (λ x. agrees names n x.name ≡ false) us) (sym h.name) a.0, a.1)
  still_apart vs ws (IsLater v us xs t m) a = (
    all_names (λ n. agrees names v.name n ≡ false) us xs m ((names_agree names).symm v.name d.name ∙ t)
        a.0,
    still_apart us xs m a.1,
  )

-- ---- all declarations

one_more : (names : Names) (es : List Declared) (d : Declared) (vs ws : List Variable) → meet names d vs ≡ Ok ws
    → AreOf names es vs → AreOf names (es ++ d ∷ []) ws
one_more names es d vs ws e a =
    let m = meet-is names d vs ws e in
    record {
      served =
          All-append (λ x. Any (Serves names x) ws) es (d ∷ [])
          (All-all (λ x. Any (Serves names x) vs) (λ x. Any (Serves names x) ws) es
          (λ x s. still_served names d x vs ws m s) a.served) (serves_it names d vs ws m, tt);
      asked = still_asked names d es vs ws m a.asked;
      apart = still_apart names d vs ws m a.apart;
    }

all_more : (names : Names) (es ds : List Declared) (vs ws : List Variable) → met names vs ds ≡ Ok ws → AreOf names es vs
    → AreOf names (es ++ ds) ws
all_more names es [] vs ws e a =
    let is : vs ≡ ws = cc in
    subst (λ xs. AreOf names xs ws) (sym (append-nil es)) (subst (AreOf names es) is a)
all_more names es (d ∷ ds) vs ws e a =
    by (meet names d vs) refl e (λ xs u of. all_more names (es ++ d ∷ []) ds xs ws u of)
  where
    by : (r : Result (List Variable) ClashFault) → meet names d vs ≡ r →
        result_and_then (λ xs. met names xs ds) r ≡ Ok ws →
        ((xs : List Variable) → met names xs ds ≡ Ok ws → AreOf names (es ++ d ∷ []) xs →
        AreOf names ((es ++ d ∷ []) ++ ds) ws) → AreOf names (es ++ d ∷ ds) ws
    by (Ok xs) h u k =
        subst (λ ys. AreOf names ys ws) (append_assoc es (d ∷ []) ds) (k xs u (one_more names es d vs xs h a))
    by (Err f) h u k = absurd (cc)

pub once : AreOnce
once names ms vs e = all_more names [] (wanted names ms) [] vs e (record { served = tt; asked = tt; apart = tt })
