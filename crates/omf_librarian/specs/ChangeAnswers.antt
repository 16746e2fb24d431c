-- How the program answers a change.
use Rattle.std.specs.Prelude.{◌≡◌, ℕ, List, Some, None, Ok, Err, Vec}
use Rattle.std.specs.Borrow.{Bor}
use Rattle.std.specs.declared.option.Option.{Option}
use Rattle.std.specs.declared.result.Result.{Result}
use Rattle.omf_library.specs.Names.{texts}
use Rattle.omf_librarian.specs.declared.changing.ChangeFault.{ChangeFault}
use Rattle.omf_librarian.specs.declared.changing.ChangeFault.TheVariants.{Missing, Memory}

-- the members are those that stand; the name is missing where none do; or there was no memory
abbrev pub Changes : {A : Type 0} → Result (Vec (Bor (List ℕ)) A) ChangeFault → Option (List (List ℕ)) → Type 0
Changes (Ok v) stands = stands ≡ Some (texts v.items)
Changes (Err Missing) stands = stands ≡ None
Changes (Err Memory) stands = Unit {0}
