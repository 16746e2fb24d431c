-- Whether the near variables stand in the segment `_BSS`.
use Rattle.std.specs.Prelude.{Bool, true, false, ◌&&◌, List, codes, slice_get}
use Rattle.std.specs.List.{filter_map, list_any}
use Rattle.std.specs.Str.{bytes_eq}
use Rattle.omf_module.specs.declared.Kind.{Kind}
use Rattle.omf_module.specs.declared.Kind.TheVariants.{Private, Public, Stack, Common}
use Rattle.omf_module.specs.declared.Standing.{Standing}
use Rattle.omf_module.specs.declared.Standing.TheVariants.{Absolute, Relocatable}
use Rattle.omf_module.specs.Module.{Module, Segment, Group}
use Rattle.omf_communal.specs.Records.{dgroup}

-- a segment combines as a public one
abbrev pub is_public_kind : Kind → Bool
is_public_kind Private = false
is_public_kind Public = true
is_public_kind Stack = false
is_public_kind Common = false

abbrev pub is_public : Standing → Bool
is_public (Absolute frame offset) = false
is_public (Relocatable alignment kind) = is_public_kind kind

-- a public segment of the name `_BSS` and the class BSS
abbrev pub is_bss : Segment → Bool
is_bss s = is_public s.standing && (bytes_eq s.name (codes "_BSS") && bytes_eq s.class (codes "BSS"))

-- a group is DGROUP and has it, of these segments of its module
abbrev pub is_in_group : List Segment → Group → Bool
is_in_group segments g = bytes_eq g.name dgroup && list_any is_bss (filter_map (slice_get segments) g.members)

-- a module has it in the group DGROUP
abbrev pub has_bss : Module → Bool
has_bss m = list_any (is_in_group m.segments) m.groups
