-- The module that bytes begin with is the only one, and so is their fault.
use Rattle.std.proofs.Common.{◌≡◌, ℕ, ◌+◌, List, [], ◌∷◌, ◌++◌, length, Option, None, Some, refl, sym, ap, subst, ◌∙◌}
use Rattle.std.proofs.Common.{arith, inl, inr}
use Rattle.std.proofs.lemmas.List.{append-nil}
use Rattle.omf_record.specs.Records.{Placed, AreRecords, AreBeforeEnd, NoRecordAt}
use Rattle.omf_record.proofs.Records.{GoesOn, compare, first_same, none_more, only_way, ended_before, record_here}
use Rattle.omf_record.proofs.Records.{one_reason}
use Rattle.omf_module.specs.declared.fault.CheckFault.{CheckFault}
use Rattle.omf_module.specs.declared.fault.FaultKind.{FaultKind}
use Rattle.omf_module.specs.declared.fault.FaultKind.TheVariants as kind
use Rattle.omf_module.specs.Faults.{fault, first_fault}
use Rattle.omf_module.specs.Bytes.{ModuleBytes, ReadingFault}
use Rattle.omf_module.specs.inside.Behind.{FaultBehind}
use Rattle.omf_module.proofs.Whole.{no_fault_at}

some_is : (o : Option CheckFault) (a b : CheckFault) → o ≡ Some a → o ≡ Some b → a ≡ b
some_is o a b e f = let s : (let u : Option CheckFault = Some a in u) ≡ Some b = sym e ∙ f in (cc)

none_some : (o : Option CheckFault) (a : CheckFault) → o ≡ None → o ≡ Some a → ⊥
none_some o a e f = cc

-- a record that no check refuses begins here
none_at_fault : (rs : List Placed) (place : ℕ) (p : Placed) (more : List Placed) (x s : List ℕ) (f : FaultKind)
    → AreRecords place (p ∷ more) x → fault rs p.says ≡ None → FaultBehind rs place (x ++ s) f → ⊥
none_at_fault rs place p more x s f h sound (inl k) =
    let same = first_same place p k.0 more [] x k.1 s k.2 h k.4 k.3 in
    none_some (fault rs p.says) k.5 sound (ap (λ (r : Placed). fault rs r.says) same.0 ∙ k.7)
none_at_fault rs place p more x s f h sound (inr k) = record_here place p more x s k.0 h k.1

-- sound records go on by none behind a fault
stopped : (rs more : List Placed) (place : ℕ) (x r s : List ℕ) (f : FaultKind) → AreRecords place more x → r ≡ x ++ s
    → first_fault (rs ++ more) ≡ None → FaultBehind rs place r f → more ≡ []
stopped rs [] place x r s f h e sound n = refl
stopped rs (p ∷ more) place x r s f h e sound n =
    absurd
    (none_at_fault rs place p more x s f h (no_fault_at rs more p sound) (subst (λ l. FaultBehind rs place l f) e n))

stopped_there : (rs ss : List Placed) (x y r s : List ℕ) (place : ℕ) (f : FaultKind) → GoesOn 0 rs ss x y r s
    → first_fault ss ≡ None → place ≡ length x → FaultBehind rs place r f → (rs ≡ ss) × (x ≡ y) × (r ≡ s)
stopped_there rs ss x y r s place f g sound at n =
    let here : place ≡ 0 + length x = omega (arith, at) in
    none_more 0 rs ss x y r s g
    (stopped rs g.more (0 + length x) g.bytes r s f g.there g.rests (subst (λ l. first_fault l ≡ None) g.records sound)
    (subst (λ p. FaultBehind rs p r f) here n))

-- a sound module is the only one that the bytes begin with
pub one_module : (rs ss : List Placed) (x y r s : List ℕ) → ModuleBytes rs x → ModuleBytes ss y → x ++ r ≡ y ++ s
    → (rs ≡ ss) × (x ≡ y) × (r ≡ s)
one_module rs ss x y r s h k e = only_way 0 rs ss x y r s h.ended k.ended h.records k.records e

-- it has no fault
pub no_fault : (rs : List Placed) (x rest : List ℕ) (place : ℕ) (f : FaultKind) → ModuleBytes rs x
    → ReadingFault (x ++ rest) place f → ⊥
no_fault rs x rest place f h (ss, y, s, e, k, at, n) = elim (compare 0 rs ss x y rest s h.records k.records e) [
  | inl g ↦ ended_before rs g.more h.ended (subst AreBeforeEnd g.records k.open')
  | inr g ↦
      let same = stopped_there ss rs y x s rest place f g h.sound at n in
      ended_before rs [] h.ended (subst AreBeforeEnd (same.0 ∙ sym (append-nil rs)) k.open')
]

one_behind : (rs : List Placed) (place : ℕ) (s : List ℕ) (f g : FaultKind) → FaultBehind rs place s f
    → FaultBehind rs place s g → f ≡ g
one_behind rs place s f g (inl h) (inl k) =
    let same = first_same place h.0 k.0 [] [] h.1 k.1 h.2 k.2 h.4 k.4 (sym h.3 ∙ k.3) in
    h.6 ∙ ap (λ c. kind.Check c)
    (some_is (fault rs k.0.says) h.5 k.5 (ap (λ (r : Placed). fault rs r.says) (sym same.0) ∙ h.7) k.7) ∙ sym k.6
one_behind rs place s f g (inl h) (inr k) =
    absurd (record_here place h.0 [] h.1 h.2 k.0 h.4 (subst (λ l. NoRecordAt place l k.0) h.3 k.1))
one_behind rs place s f g (inr h) (inl k) =
    absurd (record_here place k.0 [] k.1 k.2 h.0 k.4 (subst (λ l. NoRecordAt place l h.0) k.3 h.1))
one_behind rs place s f g (inr h) (inr k) =
    h.2 ∙ ap (λ why. kind.Absent why) (one_reason place s h.0 k.0 h.1 k.1) ∙ sym k.2

-- behind the same records
same_fault : (rs ss : List Placed) (x y r s : List ℕ) (p q : ℕ) (f g : FaultKind) → (rs ≡ ss) × (x ≡ y) × (r ≡ s)
    → p ≡ length x → q ≡ length y → FaultBehind rs p r f → FaultBehind ss q s g → (p ≡ q) × (f ≡ g)
same_fault rs ss x y r s p q f g same at to h k =
    let places : p ≡ q = at ∙ ap length same.1 ∙ sym to in
    let there =
    subst (λ n. FaultBehind ss n s f) places
    (subst (λ l. FaultBehind ss p l f) same.2 (subst (λ l. FaultBehind l p r f) same.0 h)) in
    (places, one_behind ss q s f g there k)

-- bytes have one fault
pub one_fault : (bytes : List ℕ) (p q : ℕ) (f g : FaultKind) → ReadingFault bytes p f → ReadingFault bytes q g
    → (p ≡ q) × (f ≡ g)
one_fault bytes p q f g (rs, x, r, e, h, at, n) (ss, y, s, d, k, to, m) =
    elim (compare 0 rs ss x y r s h.records k.records (sym e ∙ d)) [
      | inl w ↦ same_fault rs ss x y r s p q f g (stopped_there rs ss x y r s p f w k.sound at n) at to n m
      | inr w ↦
          let same = stopped_there ss rs y x s r q g w h.sound to m in
          same_fault rs ss x y r s p q f g (sym same.0, sym same.1, sym same.2) at to n m
    ]
