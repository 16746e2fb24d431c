-- Chains of positions, and their places one after the other.
use Rattle.std.proofs.Common.{◌≡◌, ℕ, zero, suc, ◌+◌, ◌-◌, ◌<◌, ◌≤◌, cond, eqb, List, [], ◌∷◌, ◌++◌, filter, flat_map}
use Rattle.std.proofs.Common.{set, length, get_or, take, slice_range, All, refl, sym, ap, subst, ◌∙◌, arith, inl, inr}
use Rattle.std.proofs.Common.{add-one, eq-eqb, append-nil, append_assoc, drop_at}
use Rattle.std.proofs.lemmas.Bool.{cases_eq, cond-true, cond-false, ne_eqb}
use Rattle.std.proofs.lemmas.List.{length-set, length-append, get_or-set_same, get_or-set_other, get_or_append_left}
use Rattle.std.proofs.lemmas.Grind.{get_or_default_zero}
use Rattle.std.proofs.Math.Seq.{get_or-append_seam}
use Rattle.std.specs.List.{range_with_len}
use Rattle.omf_image.specs.Records.{hits}
use Rattle.omf_image.specs.inside.Index.{Chain, Rises, hits_before}
use Rattle.omf_image.proofs.Ranges.{range_more, filter_none}

abbrev pub from : ℕ → List ℕ → ℕ → List ℕ
from o places i = filter (λ k. eqb (get_or places k 0) o) (range_with_len i (length places - i))

-- a chain stands on where a position before it is linked anew
pub chain_set : (next : List ℕ) (j v at : ℕ) (l : List ℕ) → Rises next → j < at → Chain next at l
    → Chain (set next j v) at l
chain_set next j v at [] r h c = c ∙ sym (length-set next j v)
chain_set next j v at (i ∷ is) r h c =
    let n = length-set next j v in
    let i≢j : i ≡ j → ⊥ = λ e. omega (arith, e, h, c.0) in
    let e : get_or (set next j v) i 0 ≡ get_or next i 0 = get_or-set_other next j i v 0 i≢j in
    let up = r i c.1 in (
      c.0,
      omega (arith, n, c.1),
      subst (λ (k : ℕ). Chain (set next j v) k is) (sym e)
          (chain_set next j v (get_or next i 0) is r (omega (arith, up, h, c.0)) c.2),
    )

pub rises_set : (next : List ℕ) (j v : ℕ) → Rises next → j < v → Rises (set next j v)
rises_set next j v r h k m =
    let n = length-set next j v in
    elim (cases_eq k j) [
      | inl e ↦
          let s : get_or (set next j v) k 0 ≡ v =
          ap (λ (i : ℕ). get_or (set next j v) i 0) e ∙ get_or-set_same next j v 0 (omega (arith, n, m, e)) in
          omega (arith, s, h, e)
      | inr e ↦
          let s : get_or (set next j v) k 0 ≡ get_or next k 0 = get_or-set_other next j k v 0 e in
          let u = r k (omega (arith, n, m)) in omega (arith, s, u)
    ]

from_less : (o : ℕ) (places : List ℕ) (j : ℕ) → j < length places
    → from o places j ≡ cond (eqb (get_or places j 0) o) (j ∷ from o places (j + 1)) (from o places (j + 1))
from_less o places j h =
    let e : length places - j ≡ suc (length places - (j + 1)) = omega (arith, h) in
    ap (λ (m : ℕ). filter (λ k. eqb (get_or places k 0) o) (range_with_len j m)) e

-- one position more in front
pub chain_more : (places next heads : List ℕ) (i j p o : ℕ) → i ≡ j + 1 → i ≤ length places
    → length next ≡ length places → get_or places j 0 ≡ p → p < length heads → o < length heads → Rises next
    → i ≤ get_or heads o 0
    → Chain next (get_or heads o 0) (from o places i)
    → Chain (set next j (get_or heads p 0)) (get_or (set heads p j) o 0) (from o places j)
chain_more places next heads i j p o e room n at inside within r above c =
    let v = get_or heads p 0 in
    let m = length-set next j v in
    let rest : Chain (set next j v) (get_or heads o 0) (from o places (j + 1)) =
    subst (λ (k : ℕ). Chain (set next j v) (get_or heads o 0) (from o places k)) e
    (chain_set next j v (get_or heads o 0) (from o places i) r (omega (arith, e, above)) c) in
    elim (cases_eq o p) [
      | inl q ↦
          let list : from o places j ≡ j ∷ from o places (j + 1) =
          from_less o places j (omega (arith, e, room))
          ∙ cond-true (eqb (get_or places j 0) o) _ _ (eq-eqb (get_or places j 0) o (at ∙ sym q)) in
          let head : get_or (set heads p j) o 0 ≡ j =
          ap (λ (k : ℕ). get_or (set heads p j) k 0) q ∙ get_or-set_same heads p j 0 inside in
          let tail : get_or (set next j v) j 0 ≡ get_or heads o 0 =
          get_or-set_same next j v 0 (omega (arith, e, room, n)) ∙ ap (λ (k : ℕ). get_or heads k 0) (sym q) in
          subst (Chain (set next j v) (get_or (set heads p j) o 0)) (sym list) (
            head,
            omega (arith, e, room, n, m),
            subst (λ (k : ℕ). Chain (set next j v) k (from o places (j + 1)))
                (sym tail) rest,
          )
      | inr q ↦
          let list : from o places j ≡ from o places (j + 1) =
          from_less o places j (omega (arith, e, room))
          ∙ cond-false (eqb (get_or places j 0) o) _ _ (ne_eqb (get_or places j 0) o (λ z. q (sym z ∙ at))) in
          let head : get_or (set heads p j) o 0 ≡ get_or heads o 0 = get_or-set_other heads p o j 0 q in
          subst (Chain (set next j v) (get_or (set heads p j) o 0)) (sym list)
          (subst (λ (k : ℕ). Chain (set next j v) k (from o places (j + 1))) (sym head) rest)
    ]

-- the first position of a chain, and the rest
pub chain_step : (next : List ℕ) (at : ℕ) (l : List ℕ) → at < length next → Chain next at l
    → (is : List ℕ) × (l ≡ at ∷ is) × Chain next (get_or next at 0) is
chain_step next at [] h c = absurd (omega (arith, h, c))
chain_step next at (i ∷ is) h c =
    (is, ap (λ (k : ℕ). k ∷ is) (sym c.0), subst (λ (k : ℕ). Chain next (get_or next k 0) is) (sym c.0) c.2)

pub chain_end : (next : List ℕ) (at : ℕ) (l : List ℕ) → length next ≤ at → Chain next at l → l ≡ []
chain_end next at [] h c = refl
chain_end next at (i ∷ is) h c = absurd (omega (arith, h, c.0, c.1))

flat_append : (f : ℕ → List ℕ) (xs ys : List ℕ) → flat_map f (xs ++ ys) ≡ flat_map f xs ++ flat_map f ys
flat_append f [] ys = refl
flat_append f (x ∷ xs) ys =
    ap (λ (l : List ℕ). f x ++ l) (flat_append f xs ys) ∙ sym (append_assoc (f x) (flat_map f xs) (flat_map f ys))

pub before_more : (places : List ℕ) (o : ℕ) → hits_before places (o + 1) ≡ hits_before places o ++ hits o places
before_more places o =
    let f : ℕ → List ℕ = λ p. hits p places in
    ap (λ (k : ℕ). flat_map f (range_with_len 0 k)) (add-one o) ∙ ap (flat_map f) (range_more 0 o)
    ∙ flat_append f (range_with_len 0 o) ((0 + o) ∷ [])
    ∙ ap (λ (l : List ℕ). hits_before places o ++ l) (append-nil (f (0 + o)))
    ∙ (let z : 0 + o ≡ o = omega arith in ap (λ (k : ℕ). hits_before places o ++ hits k places) z)

pub before_all : (places : List ℕ) (o n : ℕ)
    → (rest : List ℕ) × (hits_before places (o + n) ≡ hits_before places o ++ rest)
before_all places o zero = ([], ap (hits_before places) (omega arith) ∙ sym (append-nil (hits_before places o)))
before_all places o (suc n) =
    let h = before_all places o n in
    let e : o + suc n ≡ o + n + 1 = omega arith in (
      h.0 ++ hits (o + n) places,
      ap (hits_before places) e ∙ before_more places (o + n)
          ∙ ap (λ (l : List ℕ). l ++ hits (o + n) places) h.1
          ∙ append_assoc (hits_before places o) h.0 (hits (o + n) places),
    )

take_front : (xs ys : List ℕ) (n : ℕ) → n ≡ length xs → take n (xs ++ ys) ≡ xs
take_front [] ys n e = ap (λ (k : ℕ). take k ys) e
take_front (x ∷ xs) ys n e =
    ap (λ (k : ℕ). take k (x ∷ xs ++ ys)) e ∙ ap (λ (l : List ℕ). x ∷ l) (take_front xs ys (length xs) refl)

-- the part of a place among the positions
pub part : (places : List ℕ) (o n : ℕ) → o + 1 ≤ n
    → slice_range (hits_before places n) (length (hits_before places o)) (length (hits_before places (o + 1)))
    ≡ hits o places
part places o n h =
    let rest = before_all places (o + 1) (n - (o + 1)) in
    let m : o + 1 + (n - (o + 1)) ≡ n = omega (arith, h) in
    let f = hits_before places o in
    let g = hits o places in
    let whole : hits_before places n ≡ f ++ (g ++ rest.0) =
    ap (hits_before places) (sym m) ∙ rest.1 ∙ ap (λ (l : List ℕ). l ++ rest.0) (before_more places o)
    ∙ append_assoc f g rest.0 in
    let len : length (hits_before places (o + 1)) ≡ length f + length g =
    ap length (before_more places o) ∙ length-append f g in
    let width : length (hits_before places (o + 1)) - length f ≡ length g = omega (arith, len) in
    ap (λ (l : List ℕ). slice_range l (length f) (length (hits_before places (o + 1)))) whole
    ∙ ap (take (length (hits_before places (o + 1)) - length f)) (drop_at f (g ++ rest.0) (length f) refl)
    ∙ take_front g rest.0 _ width

pub fits : (places : List ℕ) (o n : ℕ) → o ≤ n → length (hits_before places o) ≤ length (hits_before places n)
fits places o n h =
    let rest = before_all places o (n - o) in
    let m : o + (n - o) ≡ n = omega (arith, h) in
    let e : length (hits_before places n) ≡ length (hits_before places o) + length rest.0 =
    ap (λ (k : ℕ). length (hits_before places k)) (sym m) ∙ ap length rest.1
    ∙ length-append (hits_before places o) rest.0 in
    omega (arith, e)

-- a place past all has no positions
pub none_past : (places : List ℕ) (end o : ℕ) → All (λ p. p < end) places → end ≤ o → hits o places ≡ []
none_past places end o all h =
    filter_none (λ k. eqb (get_or places k 0) o) 0 (length places)
    (λ i l m. let a = all i 0 (omega (arith, m)) in ne_eqb (get_or places i 0) o (λ e. omega (arith, a, e, h)))

-- an element that was read
pub read : (xs : List ℕ) (i x : ℕ) → x ≡ get_or xs i x → i < length xs → x ≡ get_or xs i 0
read xs i x e h = e ∙ get_or_default_zero xs i x h

-- one start more
pub starts_more : (f : ℕ → ℕ) (xs : List ℕ) (n y : ℕ) → length xs ≡ n → y ≡ f n
    → ((o : ℕ) → o < n → get_or xs o 0 ≡ f o) → (o : ℕ) → o < n + 1 → get_or (xs ++ y ∷ []) o 0 ≡ f o
starts_more f xs n y e last each o h =
    elim (cases_eq o n) [
      | inl q ↦
          ap (λ (k : ℕ). get_or (xs ++ y ∷ []) k 0) (q ∙ sym e) ∙ get_or-append_seam xs y [] 0 ∙ last ∙ ap f (sym q)
      | inr q ↦ get_or_append_left xs (y ∷ []) 0 o (omega (arith, e, h, q)) ∙ each o (omega (arith, h, q))
    ]
