-- Where bytes that no value spells are wrong.
use Rattle.std.specs.Prelude.{ℕ, ◌<◌, ◌≤◌, List, ◌++◌, length, take, replicate}

-- no value has the text, and place is the length of its longest front that zeros complete
pub record TextFault {V : Type 0} (Text : V → List ℕ → Type 0) (text : List ℕ) (place : ℕ) : Type 0 where
  pub none : (x : V) → Text x text → ⊥
  pub within : place ≤ length text
  pub front : (zeros : ℕ) × (x : V) × Text x (take place text ++ replicate zeros 0)
  pub longest : (n zeros : ℕ) → place < n → n ≤ length text → (x : V) → Text x (take n text ++ replicate zeros 0) → ⊥
