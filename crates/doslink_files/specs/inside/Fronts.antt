-- How much of a file was read.
use Rattle.std.specs.Prelude.{ℕ, ◌≤◌, Bool, true, false, List, length}
use Rattle.std.specs.declared.option.Option.{Option}
use Rattle.std.specs.Io.KnownBytes.{IsAtEnd}

-- these bytes of a file, of which that is left, are so many at least where there may be more, and else all
abbrev pub IsFront : (more : Bool) → (least : ℕ) → (left : Option (List ℕ)) → (bytes : List ℕ) → Type 0
IsFront true least left bytes = least ≤ length bytes
IsFront false least left bytes = IsAtEnd left
