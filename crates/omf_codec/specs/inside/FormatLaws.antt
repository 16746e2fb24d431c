-- Formats of formats, and their laws: one behind another, one where a bit says so, values made of parts, lists to the
-- end.
use Rattle.std.proofs.Common.{◌≡◌, ℕ, ◌+◌, ◌/◌, ◌%◌, ◌≤◌, Option, Some, None, inl, inr, cond, eqb, ◌||◌, List, [], ◌∷◌}
use Rattle.std.proofs.Common.{◌++◌, length, map, refl, sym, ap, subst, ◌∙◌, append_assoc, append-nil, arith}
use Rattle.std.specs.Prelude.{replicate}
use Rattle.std.specs.List.{flat_map}
use Rattle.std.proofs.lemmas.List.{length-append, replicate-append-replicate}
use Rattle.std.proofs.lemmas.List.Concat.{flat_map-cons}
use Rattle.std.proofs.lemmas.Bool.{cases_eq}
use Rattle.omf_codec.specs.Language.{IsBytes, ◌⋆◌ as Joined, each}
use Rattle.omf_codec.specs.inside.Format.{join, Format, IsFree, Lawful, Completes, IsFilled, IsMade, Splits, free}

append_cancel : (s r q : List ℕ) → s ++ r ≡ s ++ q → r ≡ q
append_cancel [] r q e = e
append_cancel (x ∷ s) r q e = append_cancel s r q cc

pub IsBytes-append : (a b : List ℕ) → IsBytes a → IsBytes b → IsBytes (a ++ b)
IsBytes-append [] b f g = g
IsBytes-append (x ∷ a) b f g = (f.0, IsBytes-append a b f.1 g)

pub IsBytes-joined : {L M : List ℕ → Type 0} (text : List ℕ) (j : Joined L M text) → IsBytes j.front → IsBytes j.rest
    → IsBytes text
IsBytes-joined text j f g = subst IsBytes (sym j.parts) (IsBytes-append j.front j.rest f g)

-- a text of the field stands in front: what it says, and what is left
pub record Same {A : Type 0} (x y : A) (s t r q : List ℕ) : Type 0 where
  pub value : x ≡ y
  pub text : s ≡ t
  pub rest : r ≡ q

module _ {I A : Type 0} (F : Format I A) (law : Lawful F) (unended : IsFree F) where
  pub same : (x y : A) (s t r q : List ℕ) → F.Text x s → F.Text y t → s ++ r ≡ t ++ q → Same x y s t r q
  same x y s t r q l m e =
      let a = law.one x y s t r q l m (unended r) (unended q) e in
      record { value = a.0; text = a.1; rest = append_cancel t r q (subst (λ (k : List ℕ). k ++ r ≡ t ++ q) a.1 e) }

-- ---- one field behind another, whose texts may depend on what the first says

module _ {I J A B : Type 0} (F : Format I A) (G : A → Format J B) (Ends : List ℕ → Type 0) where
  -- one field, and behind it one that may depend on its value
  abbrev pub behind : Format (I × J) (A × B)
  behind = record {
    view = λ x. (F.view x.0, (G (F.view x.0)).view x.1);
    Text = λ x. Joined (F.Text x.0) ((G x.0).Text x.1);
    canonical = λ x. F.canonical x.0 ++ (G x.0).canonical x.1;
    Ends = Ends;
    number = λ x. 0;
  }

  pub behind_lawful : Lawful F → IsFree F → ((x : A) → Lawful (G x))
      → ((x : A) (rest : List ℕ) → Ends rest → (G x).Ends rest) → Lawful behind
  behind_lawful p unended q ends = record {
    one = one;
    shortest = λ x text j.
        let a = p.shortest x.0 j.front j.first in
        let b = (q x.0).shortest x.1 j.rest j.second in (
          join (F.canonical x.0) ((G x.0).canonical x.1) refl a.0 b.0,
          omega (
            arith,
            a.1,
            b.1,
            ap length j.parts,
            length-append j.front j.rest,
            length-append (F.canonical x.0) ((G x.0).canonical x.1),
          ),
        );
    bytes = λ x text j. IsBytes-joined text j (p.bytes x.0 j.front j.first) ((q x.0).bytes x.1 j.rest j.second);
  }
    where
      one : (x y : A × B) (s t r k : List ℕ) → behind.Text x s → behind.Text y t → Ends r → Ends k → s ++ r ≡ t ++ k
          → (x ≡ y) × (s ≡ t)
      one (x, z) (y, w) s t r k i j u v e =
          let whole : i.front ++ (i.rest ++ r) ≡ j.front ++ (j.rest ++ k) = sym (append_assoc i.front i.rest r)
          ∙ ap (λ (l : List ℕ). l ++ r) (sym i.parts) ∙ e ∙ ap (λ (l : List ℕ). l ++ k) j.parts
          ∙ append_assoc j.front j.rest k in
          let a = same F p unended x y i.front j.front (i.rest ++ r) (j.rest ++ k) i.first j.first whole in
          let b = (q y).one z w i.rest j.rest r k (subst (λ v. (G v).Text z i.rest) a.value i.second) j.second
          (ends y r u) (ends y k v) a.rest in (
            rw (a.value, b.0) refl,
            i.parts ∙ ap (λ (l : List ℕ). l ++ i.rest) a.text
                ∙ ap (λ (l : List ℕ). j.front ++ l) b.1 ∙ sym j.parts,
          )

  pub behind_blank : Completes F [] → ((x : A) → Completes (G x) []) → Completes behind []
  behind_blank (n, x, l) h =
      let m = h x in (
        n + m.0,
        (x, m.1),
        join (replicate n 0) (replicate m.0 0) (sym (replicate-append-replicate n m.0 0)) l m.2,
      )

  pub behind_filled : IsFilled F → IsFilled behind
  behind_filled h x text j = omega (arith, h x.0 j.front j.first, ap length j.parts, length-append j.front j.rest)

-- one field behind another
abbrev pub both : {I J A B : Type 0} → Format I A → Format J B → Format (I × J) (A × B)
both F G = behind F (λ x. G) G.Ends

pub both_lawful : {I J A B : Type 0} (F : Format I A) → Lawful F → IsFree F → (G : Format J B) → Lawful G
    → Lawful (both F G)
both_lawful F p unended G q = behind_lawful F (λ x. G) G.Ends p unended (λ x. q) (λ x rest e. e)

pub both_blank : {I J A B : Type 0} (F : Format I A) (G : Format J B) → Completes F [] → Completes G []
    → Completes (both F G) []
both_blank F G p q = behind_blank F (λ x. G) G.Ends p (λ x. q)

pub both_filled : {I J A B : Type 0} (F : Format I A) (G : Format J B) → IsFilled F → IsFilled (both F G)
both_filled F G h = behind_filled F (λ x. G) G.Ends h

-- ---- a field that stands only where the fact holds

-- some bits of a number: divided by the unit, modulo the count
abbrev pub bits_at : ℕ → ℕ → ℕ → ℕ
bits_at unit count n = cond (eqb unit 0 || eqb count 0) 0 (n / unit % count)

-- what the function gives for a value that is there
abbrev pub map_option : {A B : Type 0} → (A → B) → Option A → Option B
map_option f None = None
map_option f (Some x) = Some (f x)

pub map_same : {A : Type 0} (f : A → A) → ((x : A) → f x ≡ x) → (o : Option A) → map_option f o ≡ o
map_same f h None = refl
map_same f h (Some x) = ap (λ y. Some y) (h x)

-- a text where the fact holds, and else none
abbrev pub WhenText : {A : Type 0} → Type 0 → (A → List ℕ → Type 0) → Option A → List ℕ → Type 0
WhenText P L (Some x) text = P × L x text
WhenText P L None text = (P → ⊥) × (text ≡ [])

-- the canonical text of what is there
abbrev pub when_canonical : {A : Type 0} → (A → List ℕ) → Option A → List ℕ
when_canonical c (Some x) = c x
when_canonical c None = []

module _ {I A : Type 0} (P : Type 0) (F : Format I A) where
  -- a field that stands only where the fact holds
  abbrev pub when : Format (Option I) (Option A)
  when = free (map_option F.view) (WhenText P F.Text) (when_canonical F.canonical)

  pub when_lawful : Lawful F → IsFree F → Lawful when
  when_lawful law unended = record { one = one; shortest = shortest; bytes = bytes }
    where
      one : (x y : Option A) (s t r q : List ℕ) → when.Text x s → when.Text y t → Unit {0} → Unit {0} → s ++ r ≡ t ++ q
          → (x ≡ y) × (s ≡ t)
      one (Some x) (Some y) s t r q l m u v e = let w = law.one x y s t r q l.1 m.1 (unended r) (unended q) e in
          (ap (λ z. Some z) w.0, w.1)
      one (Some x) None s t r q l m u v e = absurd (m.0 l.0)
      one None (Some y) s t r q l m u v e = absurd (l.0 m.0)
      one None None s t r q l m u v e = (refl, l.1 ∙ sym m.1)

      shortest : (x : Option A) (text : List ℕ) → when.Text x text → when.Text x (when.canonical x)
          × (length (when.canonical x) ≤ length text)
      shortest (Some x) text l = let a = law.shortest x text l.1 in ((l.0, a.0), a.1)
      shortest None text l = ((l.0, refl), omega arith)

      bytes : (x : Option A) (text : List ℕ) → when.Text x text → IsBytes text
      bytes (Some x) text l = law.bytes x text l.1
      bytes None text l = subst IsBytes (sym l.1) tt

pub when_blank : {I A : Type 0} (n bits : ℕ) (F : Format I A) → Completes F [] → Completes (when (n ≡ bits) F) []
when_blank n bits F (zeros, x, l) = elim (cases_eq n bits) [
  | inl e ↦ (zeros, Some x, (e, l))
  | inr e ↦ (0, None, (e, refl))
]

-- ---- values made of parts

module _ {I P J A : Type 0} (F : Format I P) (M : Format J A) (of : IsMade F M) where
  pub made_lawful : Lawful F → IsFree F → Lawful M
  made_lawful law unended = record {
    one = λ x y s t r q l m u v e.
        let (i, i-is, il) = of.from x s l in
        let (j, j-is, jl) = of.from y t m in
        let a = law.one i j s t r q il jl (unended r) (unended q) e in
        (sym i-is ∙ ap of.made a.0 ∙ j-is, a.1);
    shortest = λ x text l.
        let p = of.splits x in
        let (short, s, le) = p.best text l in
        let a = law.shortest (of.split x) short s in
        let k = p.to (F.canonical (of.split x)) a.0 in
        rw (← k.1) (k.0, omega (arith, le, a.1));
    bytes = λ y text l. let (x, x-is, k) = of.from y text l in law.bytes x text k;
  }

  pub made_blank : Completes F [] → Completes M []
  made_blank (n, x, l) = (n, of.made x, of.to x (replicate n 0) l)

  pub made_filled : IsFilled F → IsFilled M
  made_filled h x text l = let (y, y-is, k) = of.from x text l in h y text k

-- each value has its parts, which have its texts
module _ {I P J A : Type 0} (F : Format I P) (M : Format J A) (made : P → A) (split : A → P) (same : (y : A)
    → F.canonical (split y) ≡ M.canonical y) (to : (x : P) (text : List ℕ) → F.Text x text → M.Text (made x) text)
    (from : (y : A) (text : List ℕ) → M.Text y text → F.Text (split y) text) (back : (y : A) → made (split y) ≡ y) where
  pub exact_splits : (y : A) → Splits F M (split y) y
  exact_splits y = record {
    to = λ text l. (subst (λ z. M.Text z text) (back y) (to (split y) text l), same y);
    best = λ text l. (text, from y text l, omega arith);
  }

  pub exact : IsFree M → IsMade F M
  exact unended = record {
    made = made;
    split = split;
    to = to;
    from = λ y text l. (split y, back y, from y text l);
    splits = exact_splits;
    free = unended;
  }

-- ---- lists to the end

module _ {I A : Type 0} (F : Format I A) where
  -- fields of one kind, to the end
  abbrev pub to_end : {V : Type 0} → (V → List I) → Format V (List A)
  to_end items = record {
    view = λ v. map F.view (items v);
    Text = each F.Text;
    canonical = flat_map F.canonical;
    Ends = λ rest. rest ≡ [];
    number = λ x. 0;
  }

  pub each_shortest : Lawful F → (xs : List A) (text : List ℕ) → each F.Text xs text
      → each F.Text xs (flat_map F.canonical xs) × (length (flat_map F.canonical xs) ≤ length text)
  each_shortest law [] text l = (refl, omega arith)
  each_shortest law (x ∷ xs) text j =
      let a = law.shortest x j.front j.first in
      let b = each_shortest law xs j.rest j.second in
      rw flat_map-cons (
        join (F.canonical x) (flat_map F.canonical xs) refl a.0 b.0,
        omega (
          arith,
          a.1,
          b.1,
          ap length j.parts,
          length-append j.front j.rest,
          length-append (F.canonical x) (flat_map F.canonical xs),
        ),
      )

  pub each_bytes : Lawful F → (xs : List A) (text : List ℕ) → each F.Text xs text → IsBytes text
  each_bytes law [] text l = subst IsBytes (sym l) tt
  each_bytes law (x ∷ xs) text j = IsBytes-joined text j (law.bytes x j.front j.first)
      (each_bytes law xs j.rest j.second)

  pub each_lawful : {V : Type 0} (items : V → List I) → Lawful F → IsFree F → IsFilled F → Lawful (to_end items)
  each_lawful items law unended filled = record {
    one = λ x y s t r q l m u v e. let w : s ≡ t = sym (append-nil s) ∙ ap (λ (k : List ℕ). s ++ k) (sym u) ∙ e
        ∙ ap (λ (k : List ℕ). t ++ k) v ∙ append-nil t in (one x y t (subst (each F.Text x) w l) m, w);
    shortest = each_shortest law;
    bytes = each_bytes law;
  }
    where
      one : (xs ys : List A) (text : List ℕ) → each F.Text xs text → each F.Text ys text → xs ≡ ys
      one [] [] text l m = refl
      one [] (y ∷ ys) text l m = absurd (omega (
        arith,
        ap length l,
        ap length m.parts,
        length-append m.front m.rest,
        filled y m.front m.first,
      ))
      one (x ∷ xs) [] text l m = absurd (omega (
        arith,
        ap length m,
        ap length l.parts,
        length-append l.front l.rest,
        filled x l.front l.first,
      ))
      one (x ∷ xs) (y ∷ ys) text l m =
          let s = same F law unended x y l.front m.front l.rest m.rest l.first m.first (sym l.parts ∙ m.parts) in
          let t = one xs ys m.rest (subst (each F.Text xs) s.rest l.second) m.second in
          rw (s.value, t) refl
