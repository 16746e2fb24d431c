-- The lengths of a stack's parts, one segment more at a time.
use Rattle.std.proofs.Common.{◌≡◌, ℕ, zero, suc, ◌+◌, ◌<◌, ◌≤◌, Bool, true, false, cond}
use Rattle.std.proofs.Common.{List, [], ◌∷◌, ◌++◌, length, map}
use Rattle.std.proofs.Common.{take, get_or, filter, refl, ap, arith}
use Rattle.std.specs.List.{sum_by}
use Rattle.std.proofs.lemmas.List.Sums.{sum_by-cons}
use Rattle.omf_module.specs.Module.{Segment}
use Rattle.omf_stack.specs.Stack.{is_of, stack_length}
use Rattle.omf_stack.proofs.Lists.{map_one}

-- that of one
abbrev pub own_length : (stack : Segment) → Segment → ℕ
own_length stack s = cond (is_of stack s) s.length 0

pub length-cons : (stack s : Segment) (ss : List Segment)
    → stack_length stack (s ∷ ss) ≡ own_length stack s + stack_length stack ss
length-cons stack s ss = go (is_of stack s)
  where
    go : (b : Bool) →
        sum_by (λ (x : Segment). x.length) (cond b (s ∷ filter (is_of stack) ss) (filter (is_of stack) ss)) ≡ cond b s.length 0 + stack_length stack ss
    go true = sum_by-cons (λ (x : Segment). x.length) s (filter (is_of stack) ss)
    go false = omega arith

pub length-append : (stack : Segment) (one two : List Segment)
    → stack_length stack (one ++ two) ≡ stack_length stack one + stack_length stack two
length-append stack [] two = omega arith
length-append stack (s ∷ one) two =
    let rest = length-append stack one two in
    let here = length-cons stack s (one ++ two) in
    let own = length-cons stack s one in
    omega (arith, rest, here, own)

module _ {X : Type 0} (f : X → Segment) (stack : Segment) (xs : List X) (i : ℕ) (x : X) (h : i < length xs)
    (e : x ≡ get_or xs i x) where
  -- one more
  pub length-more : stack_length stack (map f (take (i + 1) xs))
      ≡ stack_length stack (map f (take i xs)) + own_length stack (f x)
  length-more =
      let one = length-cons stack (f x) [] in
      let both = length-append stack (map f (take i xs)) (f x ∷ []) in
      let all = ap (stack_length stack) (map_one f xs i x h e) in
      let none : stack_length stack [] ≡ 0 = refl in
      omega (arith, one, both, all, none)

-- a front is no longer
pub length-front : {X : Type 0} (f : X → Segment) (stack : Segment) (xs : List X) (i : ℕ)
    → stack_length stack (map f (take i xs)) ≤ stack_length stack (map f xs)
length-front f stack [] zero = omega arith
length-front f stack [] (suc i) = omega arith
length-front f stack (x ∷ xs) zero = omega arith
length-front f stack (x ∷ xs) (suc i) =
    let rest = length-front f stack xs i in
    let here = length-cons stack (f x) (map f (take i xs)) in
    let all = length-cons stack (f x) (map f xs) in
    omega (arith, rest, here, all)

-- a part has its length, and another segment none
pub own-part : (stack s : Segment) → is_of stack s ≡ true → own_length stack s ≡ s.length
own-part stack s h = ap (λ b. cond b s.length 0) h

pub own-other : (stack s : Segment) → is_of stack s ≡ false → own_length stack s ≡ 0
own-other stack s h = ap (λ b. cond b s.length 0) h
