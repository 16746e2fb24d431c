-- The modules with their sites, one after the other.
use Rattle.std.proofs.Common.{◌≡◌, ℕ, zero, suc, ◌+◌, ◌≤◌, List, [], ◌∷◌, ◌++◌, map, length, take, drop, Some}
use Rattle.std.proofs.Common.{slice_get, refl, ap, sym, ◌∙◌, arith, add-one, append_assoc, length-append}
use Rattle.omf_module.specs.Module.{Module}
use Rattle.omf_place.specs.Parts.{Site, module_sites, sites}
use Rattle.omf_place.specs.inside.Placing.{sites_from}
use Rattle.omf_place.specs.Parts.{inputs_from}
use Rattle.omf_place.proofs.SiteLists.{length-module_sites, sites_from-more}

inputs_from-suc : (p i k : ℕ) (ms : List Module) (m : Module) (q j : ℕ) → slice_get ms k ≡ Some m →
    q ≡ p + length (sites_from p i (take k ms)) → j ≡ i + k →
    inputs_from p i (take (suc k) ms)
    ≡ inputs_from p i (take k ms) ++ record { input = j; says = m; sites = module_sites q j 0 m.segments } ∷ []
inputs_from-suc p i k [] m q j e f g = cc
inputs_from-suc p i zero (x ∷ xs) m q j e f g =
    let f' : p ≡ q = omega arith in
    let g' : i ≡ j = omega arith in
    let e' : x ≡ m = cc in cc
inputs_from-suc p i (suc k) (x ∷ xs) m q j e f g =
    ap (λ ys. record { input = i; says = x; sites = module_sites p i 0 x.segments } ∷ ys)
    (inputs_from-suc (p + length x.segments) (i + 1) k xs m q j e
    (omega (
      arith,
      length-append (module_sites p i 0 x.segments) (sites_from (p + length x.segments) (i + 1) (take k xs)),
      length-module_sites p i 0 x.segments,
    )) (omega arith))

pub inputs-more : (k : ℕ) (ms : List Module) (m : Module) (q : ℕ) → slice_get ms k ≡ Some m →
    q ≡ length (sites_from 0 0 (take k ms)) →
    inputs_from 0 0 (take (k + 1) ms)
    ≡ inputs_from 0 0 (take k ms) ++ record { input = k; says = m; sites = module_sites q k 0 m.segments } ∷ []
inputs-more k ms m q e f = rw add-one (inputs_from-suc 0 0 k ms m q k e (omega arith) (omega arith))

drop_front : {X : Type 0} (xs ys : List X) (n : ℕ) → n ≡ length xs → drop n (xs ++ ys) ≡ ys
drop_front [] ys n e = rw e refl
drop_front (x ∷ xs) ys n e = rw e (drop_front xs ys (length xs) refl)

take_front : {X : Type 0} (xs ys : List X) (n : ℕ) → n ≡ length xs → take n (xs ++ ys) ≡ xs
take_front [] ys n e = rw e refl
take_front (x ∷ xs) ys n e = rw e (ap (λ zs. x ∷ zs) (take_front xs ys (length xs) refl))

pub drop-at : {X : Type 0} (k : ℕ) (xs : List X) (x : X) → slice_get xs k ≡ Some x → drop k xs ≡ x ∷ drop (k + 1) xs
drop-at k [] x e = cc
drop-at zero (y ∷ ys) x e = let e' : y ≡ x = cc in rw e' refl
drop-at (suc k) (y ∷ ys) x e = let f : suc k + 1 ≡ suc (k + 1) = omega arith in rw f (drop-at k ys x e)

-- where module k begins
abbrev pub start_of : ℕ → List Module → ℕ
start_of k ms = length (sites_from 0 0 (take k ms))

abbrev pub rest_of : ℕ → List Module → List Site
rest_of k ms = sites_from (start_of k ms) k (drop k ms)

module _ (k : ℕ) (ms : List Module) (m : Module) (at : slice_get ms k ≡ Some m) where
  next_start : start_of (k + 1) ms ≡ start_of k ms + length m.segments
  next_start =
      let e : start_of (k + 1) ms ≡ start_of k ms + length (module_sites (start_of k ms) k 0 m.segments) =
      ap length (sites_from-more k ms m (start_of k ms) at refl)
      ∙ length-append (sites_from 0 0 (take k ms)) (module_sites (start_of k ms) k 0 m.segments) in
      omega (arith, e, length-module_sites (start_of k ms) k 0 m.segments)

  pub rest_split : rest_of k ms ≡ module_sites (start_of k ms) k 0 m.segments ++ rest_of (k + 1) ms
  rest_split =
      ap (λ ns. sites_from (start_of k ms) k ns) (drop-at k ms m at)
      ∙ ap (λ p. module_sites (start_of k ms) k 0 m.segments ++ sites_from p (k + 1) (drop (k + 1) ms)) (sym next_start)

  pub row_within : length m.segments ≤ length (rest_of k ms)
  row_within =
      let e = ap length rest_split ∙ length-append (module_sites (start_of k ms) k 0 m.segments) (rest_of (k + 1) ms) in
      omega (arith, e, length-module_sites (start_of k ms) k 0 m.segments)

  pub row_is : take (length m.segments) (rest_of k ms) ≡ module_sites (start_of k ms) k 0 m.segments
  row_is = ap (λ xs. take (length m.segments) xs) rest_split
      ∙ take_front (module_sites (start_of k ms) k 0 m.segments) (rest_of (k + 1) ms) (length m.segments)
      (sym (length-module_sites (start_of k ms) k 0 m.segments))

pub map_take : {X Y : Type 0} (f : X → Y) (n : ℕ) (xs : List X) → map f (take n xs) ≡ take n (map f xs)
map_take f zero xs = refl
map_take f (suc n) [] = refl
map_take f (suc n) (x ∷ xs) = ap (λ ys. f x ∷ ys) (map_take f n xs)

pub map_drop : {X Y : Type 0} (f : X → Y) (n : ℕ) (xs : List X) → map f (drop n xs) ≡ drop n (map f xs)
map_drop f zero xs = refl
map_drop f (suc n) [] = refl
map_drop f (suc n) (x ∷ xs) = map_drop f n xs

split-from : (p i k : ℕ) (ms : List Module)
    → sites_from p i ms
    ≡ sites_from p i (take k ms) ++ sites_from (p + length (sites_from p i (take k ms))) (i + k) (drop k ms)
split-from p i zero ms = let e : p + 0 ≡ p = omega arith in let f : i + 0 ≡ i = omega arith in rw (e, f) refl
split-from p i (suc k) [] = refl
split-from p i (suc k) (m ∷ ms) =
    let row = module_sites p i 0 m.segments in
    let later = sites_from (p + length m.segments) (i + 1) (take k ms) in
    let e : (p + length m.segments) + length later ≡ p + length (row ++ later) =
    omega (arith, length-append row later, length-module_sites p i 0 m.segments) in
    let f : (i + 1) + k ≡ i + suc k = omega arith in
    ap (λ ys. row ++ ys) (split-from (p + length m.segments) (i + 1) k ms)
    ∙ sym (append_assoc row later (sites_from ((p + length m.segments) + length later) ((i + 1) + k) (drop k ms)))
    ∙ ap (λ q. (row ++ later) ++ sites_from q ((i + 1) + k) (drop k ms)) e
    ∙ ap (λ j. (row ++ later) ++ sites_from (p + length (row ++ later)) j (drop k ms)) f

pub whole_split : (k : ℕ) (ms : List Module) → sites ms ≡ sites_from 0 0 (take k ms) ++ rest_of k ms
whole_split k ms =
    let e : 0 + start_of k ms ≡ start_of k ms = omega arith in
    let f : 0 + k ≡ k = omega arith in
    split-from 0 0 k ms ∙ ap (λ p. sites_from 0 0 (take k ms) ++ sites_from p (0 + k) (drop k ms)) e
    ∙ ap (λ i. sites_from 0 0 (take k ms) ++ sites_from (start_of k ms) i (drop k ms)) f

module _ (k : ℕ) (ms : List Module) (m : Module) (at : slice_get ms k ≡ Some m) (start count : ℕ)
    (begins : start ≡ start_of k ms) (counts : count ≡ length m.segments) where
  pub begins_next : start + count ≡ start_of (k + 1) ms
  begins_next = let e = next_start k ms m at in omega (arith, e, begins, counts)

  pub stays_within : start + count ≤ length (sites ms)
  stays_within =
      let e = ap length (whole_split k ms) ∙ length-append (sites_from 0 0 (take k ms)) (rest_of k ms) in
      let h = row_within k ms m at in omega (arith, e, h, begins, counts)

  pub row_from : take count (drop start (sites ms)) ≡ module_sites start k 0 m.segments
  row_from =
      ap (λ xs. take count (drop start xs)) (whole_split k ms)
      ∙ ap (λ xs. take count xs) (drop_front (sites_from 0 0 (take k ms)) (rest_of k ms) start begins)
      ∙ ap (λ n. take n (rest_of k ms)) counts ∙ row_is k ms m at ∙ ap (λ p. module_sites p k 0 m.segments) (sym begins)
