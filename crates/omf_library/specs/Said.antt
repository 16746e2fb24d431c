-- Answers of the program without where their bytes lie in memory.
use Rattle.std.specs.Prelude.{ℕ, List, Some, None, Ok, Err, map}
use Rattle.std.specs.declared.option.Option.{Option}
use Rattle.std.specs.declared.result.Result.{Result}
use Rattle.std.specs.Borrow.{Bor}
use Rattle.omf_frame.specs.Frame.{Frame}
use Rattle.omf_frame.specs.Lending.{plain_frame}
use Rattle.omf_frame.specs.declared.frame.Frame.{Frame as LentFrame}
use Rattle.omf_library.specs.declared.fault.LibraryFault.{LibraryFault}
use Rattle.omf_library.specs.declared.aliases.Alias as lent_alias
use Rattle.omf_library.specs.declared.defaults.Defaulted as lent
use Rattle.omf_library.specs.Aliases.{Alias}
use Rattle.omf_library.specs.Defaults.{Defaulted}

-- bytes
abbrev pub bytes_said : Option (Bor (List ℕ)) → Option (List ℕ)
bytes_said None = None
bytes_said (Some x) = Some x.now

-- bytes, and the bytes behind a field
abbrev pub name_said : Option (Bor (List ℕ) × Bor (List ℕ)) → Option (List ℕ × List ℕ)
name_said None = None
name_said (Some (x, rest)) = Some (x.now, rest.now)

-- a number, and the bytes behind its field
abbrev pub number_said : Option (ℕ × Bor (List ℕ)) → Option (ℕ × List ℕ)
number_said None = None
number_said (Some (n, rest)) = Some (n, rest.now)

-- a record
abbrev pub record_said : Result LentFrame LibraryFault → Result Frame LibraryFault
record_said (Ok f) = Ok (plain_frame f)
record_said (Err e) = Err e

-- externals with a default
abbrev pub defaulted_said : lent.Defaulted → Defaulted
defaulted_said d = record {
  place = d.place;
  index = d.index;
  name = d.name.now;
  default_index = d.default_index;
  default_name = bytes_said d.default_name;
}

abbrev pub all_defaulted : List lent.Defaulted → List Defaulted
all_defaulted marked = map defaulted_said marked

-- externals: the name of each, or that it is local
abbrev pub externals_said : List (Option (Bor (List ℕ))) → List (Option (List ℕ))
externals_said externals = map bytes_said externals

-- aliases
abbrev pub alias_said : lent_alias.Alias → Alias
alias_said a = record { place = a.place; name = a.name.now; meaning = a.meaning.now }

abbrev pub aliases_said : List lent_alias.Alias → List Alias
aliases_said aliases = map alias_said aliases
