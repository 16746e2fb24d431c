-- What the values of a command line say.
use Rattle.std.specs.Prelude.{◌≡◌, Bool, true, false, List, map, None, Some, codes}
use Rattle.std.specs.Borrow.{Bor}
use Rattle.clap.specs.Words.{Row, Text, one_of}

-- the texts of references
abbrev pub texts : List (Bor Text) → List Text
texts = map (λ s. s.now)

-- what a flag is: its value, or false where it has none
pub record IsFlag (id : Text) (rows : List Row) (flag : Bool) : Type 0 where
  pub given : one_of id rows ≡ Some (codes "true") → flag ≡ true
  pub other : one_of id rows ≡ Some (codes "false") → flag ≡ false
  pub none : one_of id rows ≡ None → flag ≡ false
