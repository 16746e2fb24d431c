-- Answers of the program without where their bytes lie in memory.
use Rattle.std.specs.Prelude.{ℕ, List, Some, None}
use Rattle.std.specs.declared.option.Option.{Option}
use Rattle.std.specs.Borrow.{Bor}

-- a line number with its offset, and the bytes behind both
abbrev pub pair_said : Option ((ℕ × ℕ) × Bor (List ℕ)) → Option ((ℕ × ℕ) × List ℕ)
pair_said None = None
pair_said (Some (pair, rest)) = Some (pair, rest.now)
