-- The names that are local to a module (TIS OMF 1.1, "LPUBDEF").
use Rattle.std.specs.Prelude.{ℕ, List, filter, map}
use Rattle.omf_module.specs.Module.{Module, PublicSymbol}

-- those that it makes local publics, as it was read
abbrev pub local_names_of : Module → List (List ℕ)
local_names_of m = map (λ p. p.name) (filter (λ (p : PublicSymbol). p.local) m.publics)
