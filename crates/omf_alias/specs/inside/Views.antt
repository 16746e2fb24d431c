-- Answers of private functions without where their bytes lie in memory.
use Rattle.std.specs.Prelude.{ℕ, List, Option, None, Some}
use Rattle.std.specs.Borrow.{Bor}
use Rattle.omf_alias.specs.declared.reading.Alias as lent
use Rattle.omf_alias.specs.Reading.{Alias}
use Rattle.omf_alias.specs.Said.{alias_said}

-- an alias, and the bytes behind it
abbrev pub front_said : Option (lent.Alias × Bor (List ℕ)) → Option (Alias × List ℕ)
front_said None = None
front_said (Some (a, rest)) = Some (alias_said a, rest.now)
