-- The segments of a program that are placed, which of them combine, and which are in the group DGROUP.
use Rattle.std.specs.Prelude.{ℕ, Bool, not, ◌&&◌, List, [], filter, if◌then◌else◌, slice_get, codes}
use Rattle.std.specs.List.{filter_map, flat_map}
use Rattle.std.specs.Str.{bytes_eq}
use Rattle.omf_module.specs.declared.Kind.{Kind}
use Rattle.omf_module.specs.declared.Kind.TheVariants.{Private}
use Rattle.omf_module.specs.declared.Standing.{Standing}
use Rattle.omf_module.specs.declared.Standing.TheVariants.{Absolute, Relocatable}
use Rattle.omf_module.specs.Faults.{is_absolute}
use Rattle.omf_module.specs.Module.{Module, Segment, Group}
use Rattle.omf_place.specs.Parts.{is_kind}

-- those of a module that aren't absolute
abbrev pub placed_in : Module → List Segment
placed_in module' = filter (λ s. not (is_absolute s.standing)) module'.segments

-- those of a program, in order of modules and of definition
abbrev pub placed : List Module → List Segment
placed program = flat_map placed_in program

-- the name of the group
abbrev pub dgroup : List ℕ
dgroup = codes "DGROUP"

-- the segments of a group, if it is that one
abbrev pub members : List Segment → Group → List Segment
members segments group =
    if bytes_eq group.name dgroup then filter_map (slice_get segments) group.members else []

-- those of the groups of a module
abbrev pub grouped_in : Module → List Segment
grouped_in module' = flat_map (members module'.segments) module'.groups

-- those of the groups of a program
abbrev pub grouped : List Module → List Segment
grouped program = flat_map grouped_in program

-- two segments have one class name, byte for byte
abbrev pub same_class : Segment → Segment → Bool
same_class a b = bytes_eq a.class b.class

-- the kind of a segment; an absolute one combines with none
abbrev pub kind_of : Standing → Kind
kind_of (Absolute frame offset) = Private
kind_of (Relocatable alignment kind) = kind

-- two segments are parts of one combined segment: name, class and kind agree, and the kind isn't private
abbrev pub combine : Segment → Segment → Bool
combine a b = is_kind (kind_of a.standing) b.standing && (bytes_eq a.name b.name && same_class a b)
