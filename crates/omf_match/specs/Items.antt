-- Items that are held.
use Rattle.std.specs.Prelude.{List, Vec}

-- those of a vector
abbrev pub items_of : {T A : Type 0} → Vec T A → List T
items_of v = v.items
