-- What adding the members of a file does.
use Rattle.std.specs.Prelude.{◌≡◌, List, ◌++◌, Ok, Err}
use Rattle.std.specs.declared.result.Result.{Result}
use Rattle.doslink_stock.specs.declared.fault.StockFault.{StockFault}
use Rattle.doslink_stock.specs.Files.{Held, IsFault}

-- these members were added to the old ones, or this is the fault
abbrev pub Adds : (old new : List Held) → (members : Result (List Held) StockFault) → Result (Unit {0}) StockFault
    → Type 0
Adds old new members (Ok done) = (more : List Held) × (members ≡ Ok more) × (new ≡ old ++ more)
Adds old new members (Err fault) = IsFault fault members
