-- Lists that are spelled item by item, by other items or with narrower numbers.
use Rattle.std.proofs.Common.{◌≡◌, ℕ, List, [], ◌∷◌, map, sym, subst, refl}
use Rattle.std.specs.List.{AllByRecursion}
use Rattle.omf_codec.specs.Language.{each}
use Rattle.omf_codec.specs.inside.Heads.{joined}

module _ {V W : Type 0} (L : W → List ℕ → Type 0) (of : V → W) where
  pub each_map : (xs : List V) (text : List ℕ) → each (λ x. L (of x)) xs text → each L (map of xs) text
  each_map [] text l = l
  each_map (x ∷ xs) text j = joined j j.first (each_map xs j.rest j.second)

  pub each_unmap : (back : W → V) → ((y : W) → of (back y) ≡ y) → (ys : List W) (text : List ℕ) → each L ys text
      → each (λ x. L (of x)) (map back ys) text
  each_unmap back same [] text l = l
  each_unmap back same (y ∷ ys) text j =
      joined j (subst (λ z. L z j.front) (sym (same y)) j.first) (each_unmap back same ys j.rest j.second)

pub map_back : {V W : Type 0} (of : V → W) (back : W → V) → ((y : W) → of (back y) ≡ y) → (ys : List W)
    → map of (map back ys) ≡ ys
map_back of back same [] = refl
map_back of back same (y ∷ ys) = rw (same y, map_back of back same ys) refl

module _ {V : Type 0} (N L : V → List ℕ → Type 0) (Fits : V → Type 0) where
  pub each_wide : ((x : V) (text : List ℕ) → N x text → Fits x × L x text) → (xs : List V) (text : List ℕ)
      → each N xs text → AllByRecursion Fits xs × each L xs text
  each_wide to [] text l = (tt, l)
  each_wide to (x ∷ xs) text j =
      let first = to x j.front j.first in
      let others = each_wide to xs j.rest j.second in
      ((first.0, others.0), joined j first.1 others.1)

  pub each_narrow : ((x : V) (text : List ℕ) → Fits x → L x text → N x text) → (xs : List V) (text : List ℕ)
      → AllByRecursion Fits xs → each L xs text → each N xs text
  each_narrow from [] text f l = l
  each_narrow from (x ∷ xs) text f j =
      joined j (from x j.front f.0 j.first) (each_narrow from xs j.rest f.1 j.second)
