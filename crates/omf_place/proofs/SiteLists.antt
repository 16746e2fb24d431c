-- The sites of a module, one more at a time.
use Rattle.std.proofs.Common.{◌≡◌, ℕ, zero, suc, ◌+◌, List, [], ◌∷◌, ◌++◌, length, take, Some, slice_get, refl, ap, sym}
use Rattle.std.proofs.Common.{◌∙◌, arith, add-one, ◌≤◌, length-append, append_assoc, subst, append-nil, All}
use Rattle.std.proofs.lemmas.Option.{get_or_from_slice_get, slice_get_within}
use Rattle.omf_module.specs.Module.{Module, Segment}
use Rattle.omf_place.specs.Parts.{Site, module_sites, sites}
use Rattle.omf_place.specs.inside.Placing.{sites_from}
use Rattle.std.specs.List.{AllByRecursion}
use Rattle.omf_place.specs.inside.Numbered.{IsNumberedFrom}

pub length-module_sites : (p i n : ℕ) (ss : List Segment) → length (module_sites p i n ss) ≡ length ss
length-module_sites p i n [] = refl
length-module_sites p i n (s ∷ ss) = ap suc (length-module_sites (p + 1) i (n + 1) ss)

module_sites-suc : (p i n k : ℕ) (ss : List Segment) (s : Segment) (q r : ℕ) → slice_get ss k ≡ Some s → q ≡ p + k →
    r ≡ n + k →
    module_sites p i n (take (suc k) ss)
    ≡ module_sites p i n (take k ss) ++ (record { position = q; input = i; number = r; segment = s } ∷ [])
module_sites-suc p i n k [] s q r e f g = cc
module_sites-suc p i n zero (x ∷ xs) s q r e f g =
    let f' : p ≡ q = omega arith in
    let g' : n ≡ r = omega arith in
    let e' : x ≡ s = cc in cc
module_sites-suc p i n (suc k) (x ∷ xs) s q r e f g =
    ap (λ ys. record { position = p; input = i; number = n; segment = x } ∷ ys)
    (module_sites-suc (p + 1) i (n + 1) k xs s q r e (omega arith) (omega arith))

pub module_sites-more : (p i k : ℕ) (ss : List Segment) (s : Segment) (q : ℕ) → slice_get ss k ≡ Some s → q ≡ p + k →
    module_sites p i 0 (take (k + 1) ss)
    ≡ module_sites p i 0 (take k ss) ++ (record { position = q; input = i; number = k; segment = s } ∷ [])
module_sites-more p i k ss s q e f = rw add-one (module_sites-suc p i 0 k ss s q k e f (omega arith))

sites_from-suc : (p i k : ℕ) (ms : List Module) (m : Module) (q j : ℕ) → slice_get ms k ≡ Some m →
    q ≡ p + length (sites_from p i (take k ms)) → j ≡ i + k →
    sites_from p i (take (suc k) ms) ≡ sites_from p i (take k ms) ++ module_sites q j 0 m.segments
sites_from-suc p i k [] m q j e f g = cc
sites_from-suc p i zero (x ∷ xs) m q j e f g =
    let f' : p ≡ q = omega arith in
    let g' : i ≡ j = omega arith in
    let e' : x ≡ m = cc in rw append-nil cc
sites_from-suc p i (suc k) (x ∷ xs) m q j e f g =
    ap (λ ys. module_sites p i 0 x.segments ++ ys)
    (sites_from-suc (p + length x.segments) (i + 1) k xs m q j e
    (omega (
      arith,
      length-append (module_sites p i 0 x.segments) (sites_from (p + length x.segments) (i + 1) (take k xs)),
      length-module_sites p i 0 x.segments,
    )) (omega arith))
    ∙ sym
    (append_assoc (module_sites p i 0 x.segments) (sites_from (p + length x.segments) (i + 1) (take k xs))
    (module_sites q j 0 m.segments))

pub sites_from-more : (k : ℕ) (ms : List Module) (m : Module) (q : ℕ) → slice_get ms k ≡ Some m →
    q ≡ length (sites_from 0 0 (take k ms)) →
    sites_from 0 0 (take (k + 1) ms) ≡ sites_from 0 0 (take k ms) ++ module_sites q k 0 m.segments
sites_from-more k ms m q e f = rw add-one (sites_from-suc 0 0 k ms m q k e (omega arith) (omega arith))

-- what holds of each element of a list holds of one that a look-up gives
pub All-at_get : {X : Type 0} (P : X → Type 0) (xs : List X) (i : ℕ) (x : X) → All P xs → slice_get xs i ≡ Some x → P x
All-at_get P xs i x all e = subst P (get_or_from_slice_get xs i x x e) (all i x (slice_get_within xs i x e))

pub All-push : {X : Type 0} (P : X → Type 0) (xs : List X) (x : X) → AllByRecursion P xs → P x
    → AllByRecursion P (xs ++ x ∷ [])
All-push P [] x ps p = (p, tt)
All-push P (y ∷ ys) x ps p = (ps.0, All-push P ys x ps.1 p)

numbered-append : (p q : ℕ) (xs ys : List Site) → IsNumberedFrom p xs → q ≡ p + length xs → IsNumberedFrom q ys
    → IsNumberedFrom p (xs ++ ys)
numbered-append p q [] ys n e m = let h : q ≡ p = omega arith in subst (λ k. IsNumberedFrom k ys) h m
numbered-append p q (x ∷ xs) ys n e m = (n.0, numbered-append (p + 1) q xs ys n.1 (omega arith) m)

numbered_module : (p i n : ℕ) (ss : List Segment) → IsNumberedFrom p (module_sites p i n ss)
numbered_module p i n [] = tt
numbered_module p i n (s ∷ ss) = (refl, numbered_module (p + 1) i (n + 1) ss)

numbered_from : (p i : ℕ) (ms : List Module) → IsNumberedFrom p (sites_from p i ms)
numbered_from p i [] = tt
numbered_from p i (m ∷ ms) =
    numbered-append p (p + length m.segments) (module_sites p i 0 m.segments)
    (sites_from (p + length m.segments) (i + 1) ms)
    (numbered_module p i 0 m.segments) (ap (λ n. p + n) (sym (length-module_sites p i 0 m.segments)))
    (numbered_from (p + length m.segments) (i + 1) ms)

pub numbered_sites : (program : List Module) → IsNumberedFrom 0 (sites program)
numbered_sites program = numbered_from 0 0 program

pub take-all : {X : Type 0} (n : ℕ) (xs : List X) → length xs ≤ n → take n xs ≡ xs
take-all zero [] h = refl
take-all (suc n) [] h = refl
take-all zero (x ∷ xs) h = absurd (omega arith)
take-all (suc n) (x ∷ xs) h = ap (λ ys. x ∷ ys) (take-all n xs (omega arith))

-- two of one position are one
pub one_place : (ss : List Site) (a b : Site) → slice_get ss a.position ≡ Some a → slice_get ss b.position ≡ Some b
    → a.position ≡ b.position → a ≡ b
one_place ss a b e f g = let h = ap (λ p. slice_get ss p) g in let k : Some a ≡ Some b = sym e ∙ h ∙ f in cc
