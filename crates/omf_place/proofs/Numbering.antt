-- A list with its indexes, one element after the other.
use Rattle.std.proofs.Common.{◌≡◌, ℕ, ◌+◌, ◌<◌, ◌≤◌, List, [], ◌∷◌, ◌++◌, map, length, take, get_or, Some, slice_get}
use Rattle.std.proofs.Common.{refl, ap, ◌∙◌, arith, append_assoc}
use Rattle.std.proofs.lemmas.List.{take_more, map-append, flat_map_more}
use Rattle.std.proofs.lemmas.List.FromFn.{length-enumerate_from, get_or-enumerate_from}
use Rattle.std.proofs.lemmas.Option.{get_or_from_slice_get, slice_get_within}
use Rattle.std.specs.List.{enumerate_from, flat_map}
use Rattle.omf_place.proofs.SiteLists.{take-all}

pub numbered-more : {X Y : Type 0} (f : ℕ × X → Y) (xs : List X) (k : ℕ) (x : X) → slice_get xs k ≡ Some x →
    map f (take (k + 1) (enumerate_from 0 xs)) ≡ map f (take k (enumerate_from 0 xs)) ++ f (k, x) ∷ []
numbered-more f xs k x at =
    let h : k < length (enumerate_from 0 xs) =
    (let w = slice_get_within xs k x at in let e = length-enumerate_from 0 xs in omega (arith, w, e)) in
    let z : 0 + k ≡ k = omega arith in
    let e : get_or (enumerate_from 0 xs) k (k, x) ≡ (k, x) =
    get_or-enumerate_from 0 xs k (k, x) (slice_get_within xs k x at) ∙ ap (λ n. (n, get_or xs k x)) z
    ∙ ap (λ y. (k, y)) (get_or_from_slice_get xs k x x at) in
    ap (λ es. map f es) (take_more (enumerate_from 0 xs) k (k, x) h)
    ∙ map-append f (take k (enumerate_from 0 xs)) (get_or (enumerate_from 0 xs) k (k, x) ∷ [])
    ∙ ap (λ p. map f (take k (enumerate_from 0 xs)) ++ f p ∷ []) e

pub numbered-all : {X : Type 0} (xs : List X) (k : ℕ) → length xs ≤ k
    → take k (enumerate_from 0 xs) ≡ enumerate_from 0 xs
numbered-all xs k h = take-all k (enumerate_from 0 xs) (let e = length-enumerate_from 0 xs in omega (arith, e))

-- a list that grows by a numbered element
pub pushed-more : {X Y : Type 0} (f : ℕ × X → Y) (xs : List X) (k : ℕ) (x : X) (first done : List Y) (y : Y) →
    slice_get xs k ≡ Some x → y ≡ f (k, x) →
    done ≡ first ++ map f (take k (enumerate_from 0 xs)) →
    done ++ y ∷ [] ≡ first ++ map f (take (k + 1) (enumerate_from 0 xs))
pushed-more f xs k x first done y at is was =
    rw (numbered-more f xs k x at, was, is) (append_assoc first (map f (take k (enumerate_from 0 xs))) (f (k, x) ∷ []))

pub plain-more : {X Y : Type 0} (f : X → Y) (xs : List X) (k : ℕ) (x : X) (done : List Y) (y : Y)
    → slice_get xs k ≡ Some x → y ≡ f x → done ≡ map f (take k xs) → done ++ y ∷ [] ≡ map f (take (k + 1) xs)
plain-more f xs k x done y at is was =
    let w = slice_get_within xs k x at in
    rw (was, is, take_more xs k x w, map-append, get_or_from_slice_get xs k x x at) refl

pub flat-more : {X Y : Type 0} (f : X → List Y) (xs : List X) (k : ℕ) (x : X) (first done ys : List Y) →
    slice_get xs k ≡ Some x → ys ≡ f x →
    done ≡ first ++ flat_map f (take k xs) → done ++ ys ≡ first ++ flat_map f (take (k + 1) xs)
flat-more f xs k x first done ys at is was =
    let w = slice_get_within xs k x at in
    let e : take (k + 1) xs ≡ take k xs ++ x ∷ [] =
    take_more xs k x w ∙ ap (λ y. take k xs ++ y ∷ []) (get_or_from_slice_get xs k x x at) in
    rw (was, is, e) (flat_map_more f first (take k xs) x)
