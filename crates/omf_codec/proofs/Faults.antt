-- Where the fault of a body stands.
use Rattle.std.proofs.Common.{◌≡◌, ℕ, suc, ◌+◌, ◌-◌, ◌<◌, ◌≤◌, ◌⊎◌, inl, inr, List, [], ◌∷◌, ◌++◌, length, take, refl}
use Rattle.std.proofs.Common.{sym, ap, subst, ◌∙◌, append_assoc, append-nil, arith}
use Rattle.std.specs.Prelude.{replicate}
use Rattle.std.proofs.lemmas.List.{length-append, take_at}
use Rattle.std.proofs.Math.Seq.{take-append-add}
use Rattle.omf_codec.specs.inside.Format.{Format, Lawful, Completes, NoneBegins, Found, Refused}
use Rattle.omf_codec.specs.Faults.{TextFault}
use Rattle.omf_codec.specs.inside.Wholes.{IsEnding}

module _ {I V : Type 0} (F : Format I V) (ending : IsEnding F) where
  abbrev Faulty : List ℕ → List ℕ → Type 0
  Faulty bytes bad = TextFault F.Text bytes (length bytes - length bad)

  -- padding complete what stands before the bad bytes, and no text goes on with the first of those
  fault_is : (bytes front bad : List ℕ) → bytes ≡ front ++ bad → ((x : V) → F.Text x bytes → ⊥) → Completes F front
      → ((b : ℕ) (after more : List ℕ) → bad ≡ b ∷ after → (x : V) → F.Text x (front ++ b ∷ more) → ⊥)
      → Faulty bytes bad
  fault_is bytes front bad parts none k stops =
      let len : length front ≡ length bytes - length bad = omega (arith, ap length parts, length-append front bad) in
      let cut : take (length bytes - length bad) bytes ≡ front =
      ap (take (length bytes - length bad)) parts ∙ take_at front bad (length bytes - length bad) len in
      record {
        none = none;
        within = omega arith;
        front = subst (Completes F) (sym cut) k;
        longest =
            λ n padding lt le x w.
            longest bad stops n padding (omega (arith, len))
            (omega (arith, ap length parts, length-append front bad)) x
            (subst (λ (t : List ℕ). F.Text x (take n t ++ replicate padding 0)) parts w);
      }
    where
      longest : (bad : List ℕ)
          → ((b : ℕ) (after more : List ℕ) → bad ≡ b ∷ after → (x : V) → F.Text x (front ++ b ∷ more) → ⊥)
          → (n padding : ℕ) → length front < n → n ≤ length front + length bad → (x : V)
          → F.Text x (take n (front ++ bad) ++ replicate padding 0) → ⊥
      longest [] stops n padding lt le x w = omega arith
      longest (b ∷ after) stops n padding lt le x w =
          let m = n - suc (length front) in
          let n-is : n ≡ length front + suc m = omega arith in
          let more : List ℕ = take m after ++ replicate padding 0 in
          let cut : take n (front ++ b ∷ after) ≡ front ++ b ∷ take m after =
          ap (λ k. take k (front ++ b ∷ after)) n-is ∙ take-append-add front (b ∷ after) (suc m) in
          let text : take n (front ++ b ∷ after) ++ replicate padding 0 ≡ front ++ b ∷ more =
          ap (λ (t : List ℕ). t ++ replicate padding 0) cut ∙ append_assoc front (b ∷ take m after) (replicate padding 0) in
          stops b after more refl x (subst (F.Text x) text w)

  none : (bytes : List ℕ) → NoneBegins F bytes → (x : V) → F.Text x bytes → ⊥
  none bytes h x l = h x bytes [] l ending.ended (sym (append-nil bytes))

  -- the parts could not be read
  pub refused : Completes F [] → (bytes bad : List ℕ) → Refused F bytes bad → Faulty bytes bad
  refused blank bytes bad f =
      fault_is bytes f.front bad f.parts (none bytes f.none) (front f.completes)
      (λ b after more is. none (f.front ++ b ∷ more) (f.stops b after more is))
    where
      front : (f.front ≡ []) ⊎ Completes F f.front → Completes F f.front
      front (inl e) = rw e blank
      front (inr k) = k

  -- bytes are left behind the parts
  pub left_over : Lawful F → (bytes : List ℕ) (x : V) (rest : List ℕ) → 0 < length rest → Found F bytes x rest
      → Faulty bytes rest
  left_over law bytes x [] lt f = absurd (omega (arith, lt))
  left_over law bytes x (b ∷ rest) lt f =
      fault_is bytes f.front (b ∷ rest) f.parts
      (subst (λ (t : List ℕ). (y : V) → F.Text y t → ⊥) (sym f.parts) (others b rest))
      (0, x, subst (F.Text x) (sym (append-nil f.front)) f.spelled)
      (λ c after more is. others c more)
    where
      others : (c : ℕ) (more : List ℕ) (y : V) → F.Text y (f.front ++ c ∷ more) → ⊥
      others c more y l =
          let e =
          (law.one y x (f.front ++ c ∷ more) f.front [] (c ∷ more) l f.spelled ending.ended
          (ending.goes_on b c rest more f.ends) (append-nil (f.front ++ c ∷ more))).1 in
          omega (arith, ap length e, length-append f.front (c ∷ more))

-- what no parts spell, no record says
pub carried : {V R : Type 0} (Text : V → List ℕ → Type 0) (Says : R → List ℕ → Type 0) (made : V → R)
    → ((x : V) (t : List ℕ) → Text x t → Says (made x) t) → ((r : R) (t : List ℕ) → Says r t → (x : V) × Text x t)
    → (bytes : List ℕ) (at : ℕ) → TextFault Text bytes at → TextFault Says bytes at
carried Text Says made to from bytes at f = record {
  none = λ r l. let (x, k) = from r bytes l in f.none x k;
  within = f.within;
  front = let (n, x, l) = f.front in (n, made x, to x (take at bytes ++ replicate n 0) l);
  longest =
      λ n padding lt le r l.
      let (x, k) = from r (take n bytes ++ replicate padding 0) l in f.longest n padding lt le x k;
}
