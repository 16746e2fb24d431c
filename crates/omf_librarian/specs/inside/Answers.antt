-- What the code answers, without where it lies in memory.
use Rattle.std.specs.Prelude.{List, [], ◌∷◌, ℕ, Ok, Err}
use Rattle.std.specs.declared.result.Result.{Result}
use Rattle.std.specs.Borrow.{Bor}
use Rattle.omf_librarian.specs.declared.fault.LibrarianFault.{LibrarianFault}

-- bytes, or a fault
abbrev pub part_said : Result (Bor (List ℕ)) LibrarianFault → Result (List ℕ) LibrarianFault
part_said (Ok x) = Ok x.now
part_said (Err e) = Err e

-- a name that isn't empty
abbrev pub own_names : List ℕ → List (List ℕ)
own_names [] = []
own_names (b ∷ bs) = (b ∷ bs) ∷ []
