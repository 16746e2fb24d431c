-- The laws of outputs.
use Rattle.std.proofs.Common.{◌≡◌, ℕ, zero, suc, ◌+◌, ◌<◌, ◌≤◌, List, [], ◌∷◌, ◌++◌, length, take, append_assoc}
use Rattle.std.proofs.Common.{append-nil, refl, sym, ap, ◌∙◌, arith}
use Rattle.std.proofs.lemmas.List.{length-append, take_at}
use Rattle.omf_codec.specs.inside.Format.{IsOutput}

take-le : {A : Type 0} (n m : ℕ) (xs : List A) → n ≤ m → take n (take m xs) ≡ take n xs
take-le zero m xs le = refl
take-le (suc n) zero xs le = absurd (omega arith)
take-le (suc n) (suc m) [] le = refl
take-le (suc n) (suc m) (x ∷ xs) le = ap (λ ys. x ∷ ys) (take-le n m xs (omega arith))

keeps_on : (old mid new text : List ℕ) → mid ≡ old ++ text → take (length mid) new ≡ mid → take (length old) new ≡ old
keeps_on old mid new text e k =
    let le : length old ≤ length mid = omega (arith, ap length e, length-append old text) in
    sym (take-le (length old) (length mid) new le) ∙ ap (take (length old)) k ∙ ap (take (length old)) e
    ∙ take_at old text (length old) refl

pub vec_output : {V : Type 0} (items : V → List ℕ)
    → IsOutput {S = V} (λ old text new. items new ≡ items old ++ text)
    (λ old len new. take (length (items old)) (items new) ≡ items old)
vec_output items = record {
  none = λ a. sym (append-nil (items a));
  more = λ a b c s t e f. f ∙ ap (λ (k : List ℕ). k ++ t) e ∙ append_assoc (items a) s t;
  then_fails = λ a b c s n e f. keeps_on (items a) (items b) (items c) s e f;
  longer = λ a b m n le f. f;
}

pub room_output : {R : Type 0} (left : R → ℕ)
    → IsOutput {S = R} (λ old text new. length text + left new ≡ left old) (λ old len new. left old < len)
room_output left = record {
  none = λ a. omega arith;
  more = λ a b c s t e f. omega (arith, e, f, length-append s t);
  then_fails = λ a b c s n e f. omega (arith, e, f);
  longer = λ a b m n le f. omega (arith, le, f);
}
