-- A stable sort gives the list in order.
use Rattle.std.proofs.Common.{◌≡◌, suc, ◌+◌, Bool, true, false, not, ◌&&◌, cond, List, [], ◌∷◌, map, filter}
use Rattle.std.proofs.Common.{refl, ap, sym, ◌∙◌, arith}
use Rattle.std.specs.List.{AllByRecursion}
use Rattle.std.specs.List.Sorted.{IsSortedBy, IsStableBy, ties}
use Rattle.std.specs.Cmp.{IsStrictWeakOrder}
use Rattle.std.proofs.lemmas.List.Sorted.{sorted_far}
use Rattle.std.proofs.lemmas.List.Elements.{recursion_from_All}
use Rattle.link_map.specs.Ordered.{put_in, ordered}

-- no later element is less
abbrev pub Ascends : {X : Type 0} → (X → X → Bool) → List X → Type 0
Ascends less [] = Unit {0}
Ascends less (x ∷ xs) = AllByRecursion (λ y. less y x ≡ false) xs × Ascends less xs

pub Ascends-from_sorted : {X : Type 0} (less : X → X → Bool) (o : IsStrictWeakOrder less) (xs : List X)
    → IsSortedBy less xs → Ascends less xs
Ascends-from_sorted less o [] up = tt
Ascends-from_sorted less o (x ∷ xs) up = (
  recursion_from_All (λ y. less y x ≡ false) xs
      (λ k d below. sorted_far less o (x ∷ xs) up 0 (suc k) d (omega arith) (omega arith)),
  Ascends-from_sorted less o xs
      (λ k d low high.
      let e : suc k + 1 ≡ suc (k + 1) = omega arith in rw e at (up (suc k) d (omega arith) (omega arith))),
)

both-off : (a b : Bool) → a ≡ false → b ≡ false → (not a && not b) ≡ true
both-off a b e f = rw (e, f) refl

first-on : (a b : Bool) → a ≡ true → (not a && not b) ≡ false
first-on a b e = rw e refl

off-first : (a b : Bool) → (not a && not b) ≡ true → a ≡ false
off-first true b e = let z : ⊥ = cc in absurd z
off-first false b e = refl

off-second : (a b : Bool) → (not a && not b) ≡ true → b ≡ false
off-second true true e = let z : ⊥ = cc in absurd z
off-second false true e = let z : ⊥ = cc in absurd z
off-second a false e = refl

off-true : (b : Bool) → (b ≡ false → ⊥) → b ≡ true
off-true true never = refl
off-true false never = absurd (never refl)

off-false : (b : Bool) → (b ≡ true → ⊥) → b ≡ false
off-false true never = absurd (never refl)
off-false false never = refl

filter-kept : {X : Type 0} (p : X → Bool) (x : X) (xs : List X) → p x ≡ true → filter p (x ∷ xs) ≡ x ∷ filter p xs
filter-kept p x xs e = ap (λ b. cond b (x ∷ filter p xs) (filter p xs)) e

filter-dropped : {X : Type 0} (p : X → Bool) (x : X) (xs : List X) → p x ≡ false → filter p (x ∷ xs) ≡ filter p xs
filter-dropped p x xs e = ap (λ b. cond b (x ∷ filter p xs) (filter p xs)) e

module _ {X : Type 0} (less : X → X → Bool) (o : IsStrictWeakOrder less) where
  All-put_in : (P : X → Type 0) (x : X) (ys : List X) → P x → AllByRecursion P ys
      → AllByRecursion P (put_in less x ys)
  All-put_in P x [] p ps = (p, tt)
  All-put_in P x (y ∷ ys) p ps =
      elim (less y x) as (λ b. AllByRecursion P (cond b (y ∷ put_in less x ys) (x ∷ y ∷ ys)))
      [ true ↦ (ps.0, All-put_in P x ys p ps.1) | false ↦ (p, ps) ]

  All-chain : (x y : X) (zs : List X) → less y x ≡ false → AllByRecursion (λ z. less z y ≡ false) zs
      → AllByRecursion (λ z. less z x ≡ false) zs
  All-chain x y [] e ps = tt
  All-chain x y (z ∷ zs) e ps = (o.chain z y x ps.0 e, All-chain x y zs e ps.1)

  Ascends-put_in : (x : X) (ys : List X) → Ascends less ys → Ascends less (put_in less x ys)
  Ascends-put_in x [] up = (tt, tt)
  Ascends-put_in x (y ∷ ys) up =
      (elim (less y x) as (λ b. less y x ≡ b → Ascends less (cond b (y ∷ put_in less x ys) (x ∷ y ∷ ys))) [
        | true ↦ λ e. (All-put_in (λ z. less z y ≡ false) x ys (o.one_way y x e) up.0, Ascends-put_in x ys up.1)
        | false ↦ λ e. ((e, All-chain x y ys e up.0), up)
      ]) refl

  pub Ascends-ordered : (xs : List X) → Ascends less (ordered less xs)
  Ascends-ordered [] = tt
  Ascends-ordered (x ∷ xs) = Ascends-put_in x (ordered less xs) (Ascends-ordered xs)

  irreflexive : (x : X) → less x x ≡ false
  irreflexive x =
      (elim (less x x) as (λ b. less x x ≡ b → less x x ≡ false) [ true ↦ λ e. o.one_way x x e | false ↦ λ e. e ]) refl

  -- an item that ties with two others is less than neither, nor is one of these than the other
  tied-apart : (w x y : X) → ties less w x ≡ true → ties less w y ≡ true → less y x ≡ false
  tied-apart w x y e f =
      o.chain y w x (off-second (less w y) (less y w) f) (off-first (less w x) (less x w) e)

  swapped : (w x y : X) (rest : List X) (a b : Bool) → ties less w x ≡ a → ties less w y ≡ b → less y x ≡ true
      → cond b (y ∷ cond a (x ∷ rest) rest) (cond a (x ∷ rest) rest)
      ≡ cond a (x ∷ cond b (y ∷ rest) rest) (cond b (y ∷ rest) rest)
  swapped w x y rest true true e f g = let z : true ≡ false = sym g ∙ tied-apart w x y e f in cc
  swapped w x y rest true false e f g = refl
  swapped w x y rest false b e f g = refl

  kept-put_in : (w x : X) (ys : List X)
      → filter (ties less w) (put_in less x ys) ≡ filter (ties less w) (x ∷ ys)
  kept-put_in w x [] = refl
  kept-put_in w x (y ∷ ys) =
      let p = λ (v : X). ties less w v in
      (elim (less y x) as (λ b. less y x ≡ b
      → filter p (cond b (y ∷ put_in less x ys) (x ∷ y ∷ ys)) ≡ filter p (x ∷ y ∷ ys)) [
        | true ↦ λ e.
            ap (λ (l : List X). cond (p y) (y ∷ l) l) (kept-put_in w x ys)
            ∙ swapped w x y (filter p ys) (p x) (p y) refl refl e
        | false ↦ λ e. refl
      ]) refl

  pub kept-ordered : (w : X) (xs : List X) → filter (ties less w) (ordered less xs) ≡ filter (ties less w) xs
  kept-ordered w [] = refl
  kept-ordered w (x ∷ xs) =
      kept-put_in w x (ordered less xs)
      ∙ ap (λ (l : List X). cond (ties less w x) (x ∷ l) l) (kept-ordered w xs)

  self-ties : (x : X) → ties less x x ≡ true
  self-ties x = both-off (less x x) (less x x) (irreflexive x) (irreflexive x)

  -- none ties with an item that is less than the first
  none-tie : (x y : X) (ys : List X) → less x y ≡ true → AllByRecursion (λ z. less z y ≡ false) ys
      → filter (ties less x) ys ≡ []
  none-tie x y [] e ps = refl
  none-tie x y (z ∷ zs) e ps =
      let above : less x z ≡ true =
      off-true (less x z) (λ off. let c : true ≡ false = sym e ∙ o.chain x z y off ps.0 in cc) in
      filter-dropped (ties less x) z zs (first-on (less x z) (less z x) above) ∙ none-tie x y zs e ps.1

  not-less : (x y : X) (xs ys : List X) → Ascends less (y ∷ ys)
      → filter (ties less x) (x ∷ xs) ≡ filter (ties less x) (y ∷ ys) → less x y ≡ false
  not-less x y xs ys up same =
      off-false (less x y)
      (λ e.
      let some = filter-kept (ties less x) x xs (self-ties x) in
      let none = none-tie x y (y ∷ ys) e (irreflexive y, up.0) in
      let z : x ∷ filter (ties less x) xs ≡ [] = sym some ∙ same ∙ none in cc)

  pub stable-unique : (xs ys : List X) → Ascends less xs → Ascends less ys
      → ((w : X) → filter (ties less w) xs ≡ filter (ties less w) ys) → xs ≡ ys
  stable-unique [] [] up vp same = refl
  stable-unique [] (y ∷ ys) up vp same =
      let z : [] ≡ y ∷ filter (ties less y) ys = same y ∙ filter-kept (ties less y) y ys (self-ties y) in cc
  stable-unique (x ∷ xs) [] up vp same =
      let z : [] ≡ x ∷ filter (ties less x) xs = sym (same x) ∙ filter-kept (ties less x) x xs (self-ties x) in cc
  stable-unique (x ∷ xs) (y ∷ ys) up vp same =
      let e : less x y ≡ false = not-less x y xs ys vp (same x) in
      let g : less y x ≡ false = not-less y x ys xs up (sym (same y)) in
      let heads : x ∷ filter (ties less x) xs ≡ y ∷ filter (ties less x) ys =
      sym (filter-kept (ties less x) x xs (self-ties x)) ∙ same x
      ∙ filter-kept (ties less x) y ys (both-off (less x y) (less y x) e g) in
      let first : x ≡ y = cc in
      let rest : xs ≡ ys = stable-unique xs ys up.1 vp.1 (λ w. tails w first (ties less w x) refl) in
      cc
    where
      tails : (w : X) → x ≡ y → (b : Bool) → ties less w x ≡ b → filter (ties less w) xs ≡ filter (ties less w) ys
      tails w first true t =
          let other : ties less w y ≡ true = ap (ties less w) (sym first) ∙ t in
          let both : x ∷ filter (ties less w) xs ≡ y ∷ filter (ties less w) ys =
          sym (filter-kept (ties less w) x xs t) ∙ same w ∙ filter-kept (ties less w) y ys other in cc
      tails w first false t =
          let other : ties less w y ≡ false = ap (ties less w) (sym first) ∙ t in
          sym (filter-dropped (ties less w) x xs t) ∙ same w ∙ filter-dropped (ties less w) y ys other

  pub ordered-is : (xs ys : List X) → IsSortedBy less ys → IsStableBy less xs ys → ys ≡ ordered less xs
  ordered-is xs ys up stable =
      stable-unique ys (ordered less xs) (Ascends-from_sorted less o ys up) (Ascends-ordered xs)
      (λ w. stable w ∙ sym (kept-ordered w xs))

-- what is made of the items in order is what was made of them, in order
put_in-map : {X Y : Type 0} (f : X → Y) (less : Y → Y → Bool) (x : X) (xs : List X) →
    map f (put_in (λ a b. less (f a) (f b)) x xs) ≡ put_in less (f x) (map f xs)
put_in-map f less x [] = refl
put_in-map f less x (y ∷ ys) =
    elim (less (f y) (f x)) as (λ b.
    map f (cond b (y ∷ put_in (λ a b. less (f a) (f b)) x ys) (x ∷ y ∷ ys))
    ≡ cond b (f y ∷ put_in less (f x) (map f ys)) (f x ∷ f y ∷ map f ys))
    [ true ↦ ap (λ zs. f y ∷ zs) (put_in-map f less x ys) | false ↦ refl ]

pub ordered-map : {X Y : Type 0} (f : X → Y) (less : Y → Y → Bool) (xs : List X) →
    map f (ordered (λ a b. less (f a) (f b)) xs) ≡ ordered less (map f xs)
ordered-map f less [] = refl
ordered-map f less (x ∷ xs) =
    put_in-map f less x (ordered (λ a b. less (f a) (f b)) xs)
    ∙ ap (λ ys. put_in less (f x) ys) (ordered-map f less xs)
