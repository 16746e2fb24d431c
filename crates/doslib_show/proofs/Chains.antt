-- Texts that are appended one behind the other.
use Rattle.std.proofs.Common.{◌≡◌, ℕ, List, ◌++◌, OnOk, Result, ap, sym, ◌∙◌, append_assoc, map}
use Rattle.std.proofs.Common.{subst}
use Rattle.std.specs.List.{flat_map}
use Rattle.std.proofs.lemmas.List.Folds.{flat_map-map}
use Rattle.doslib_text.proofs.Texts.{then-ok}

-- a text, and behind it those of items by what they say
pub then-said : {X Y E : Type 0} (f : Y → List ℕ) (says : X → Y) (xs : List X) (r : Result (Unit {0}) E)
    (s0 s1 s2 a : List ℕ) → s1 ≡ s0 ++ a → OnOk r (s2 ≡ s1 ++ flat_map (λ x. f (says x)) xs)
    → OnOk r (s2 ≡ s0 ++ (a ++ flat_map f (map says xs)))
then-said f says xs r s0 s1 s2 a p q =
    subst (λ t. OnOk r (s2 ≡ s0 ++ (a ++ t))) (sym (flat_map-map f says xs)) (then-ok r s0 s1 s2 a _ p q)

-- two texts
pub two : (s0 s1 s2 a b : List ℕ) → s1 ≡ s0 ++ a → s2 ≡ s1 ++ b → s2 ≡ s0 ++ (a ++ b)
two s0 s1 s2 a b p q = q ∙ ap (λ l. l ++ b) p ∙ append_assoc s0 a b

-- three texts
pub three-ok : {X E : Type 0} (r : Result X E) (s0 s1 s2 s3 a b c : List ℕ) → s1 ≡ s0 ++ a → s2 ≡ s1 ++ b
    → OnOk r (s3 ≡ s2 ++ c) → OnOk r (s3 ≡ s0 ++ (a ++ (b ++ c)))
three-ok r s0 s1 s2 s3 a b c p q t = then-ok r s0 s1 s3 a (b ++ c) p (then-ok r s1 s2 s3 b c q t)
