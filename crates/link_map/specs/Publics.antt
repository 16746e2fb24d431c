-- The publics of a program, as the map lists them.
use Rattle.std.specs.Prelude.{ℕ, ◌/◌, if◌then◌else◌, true, false, List, [], ◌∷◌, Some, None}
use Rattle.std.specs.List.{flat_map}
use Rattle.std.specs.Option.{option_map_or}
use Rattle.omf_module.specs.Module.{Module, PublicSymbol}
use Rattle.omf_place.specs.declared.layout.Position.{Position}
use Rattle.omf_place.specs.declared.layout.Position.TheVariants.{Absolute, Relocatable}
use Rattle.omf_place.specs.Layout.{Layout, public}
use Rattle.link_map.specs.Public.{Public, counted_from, listed_frame}

-- a public of a name, which stands there: its frame is that of its group, and else that of its segment; of a group
-- without members it is the paragraph of the public itself
abbrev pub listed_at : (name : List ℕ) → Position → Public
listed_at name (Relocatable address (Some frame)) = counted_from name address (listed_frame address frame) false
listed_at name (Relocatable address None) = counted_from name address (address / 16) false
listed_at name (Absolute address frame) = counted_from name address (listed_frame address frame) true

-- the address of where it stands
abbrev pub address_of : Position → ℕ
address_of (Relocatable address frame) = address
address_of (Absolute address frame) = address

-- a public stands where its name does, and has its name as its own record writes it; a local one isn't listed
abbrev pub listed : Layout → PublicSymbol → List Public
listed layout symbol =
    if symbol.local then []
    else option_map_or (λ place. listed_at symbol.name place ∷ []) (public layout symbol.name) []

-- in order of inputs and records
abbrev pub publics : List Module → Layout → List Public
publics modules layout = flat_map (λ (m : Module). flat_map (listed layout) m.publics) modules
