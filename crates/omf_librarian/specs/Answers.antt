-- How the program answers what stands.
use Rattle.std.specs.Prelude.{◌≡◌, Ok, Err}
use Rattle.std.specs.declared.result.Result.{Result}
use Rattle.omf_librarian.specs.declared.fault.LibrarianFault.{LibrarianFault}
use Rattle.omf_librarian.specs.declared.fault.LibrarianFault.TheVariants.{Memory}

-- the answer is what stands, unless it is want of memory
abbrev pub Answers : {X Y : Type 0} → (X → Y) → Result X LibrarianFault → Result Y LibrarianFault → Type 0
Answers view (Ok x) stands = stands ≡ Ok (view x)
Answers view (Err Memory) stands = Unit {0}
Answers view (Err e) stands = stands ≡ Err e
