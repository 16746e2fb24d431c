-- The stack of a program, which SS:SP names: its first segment of kind stack in the order of placement, with the parts
-- that combine with it (TIS OMF 1.1, SEGDEF, the combination 5).
use Rattle.std.specs.Prelude.{ℕ, Bool, not, ◌&&◌, List, filter, find, Option}
use Rattle.std.specs.List.{flat_map, list_any, sum_by}
use Rattle.std.specs.Option.{option_and_then}
use Rattle.std.specs.Str.{bytes_eq}
use Rattle.omf_module.specs.declared.Kind.TheVariants.{Stack}
use Rattle.omf_module.specs.Faults.{is_absolute}
use Rattle.omf_module.specs.Module.{Module, Segment}
use Rattle.omf_place.specs.Parts.{is_kind}

-- the segments of a program, in order of modules and of definition
abbrev pub segments : List Module → List Segment
segments program = flat_map (λ m. m.segments) program

-- a part of kind stack
abbrev pub is_stack : Segment → Bool
is_stack s = is_kind Stack s.standing

-- two segments have one class name, byte for byte
abbrev pub same_class : Segment → Segment → Bool
same_class a b = bytes_eq a.class b.class

-- one of these is a part of kind stack in the class of a segment
abbrev pub holds_stack : List Segment → Segment → Bool
holds_stack ss s = list_any (λ t. is_stack t && same_class s t) ss

-- a segment that is placed, in whose class there is one
abbrev pub opens_stack : List Segment → Segment → Bool
opens_stack ss s = not (is_absolute s.standing) && holds_stack ss s

-- The first part of the stack. Classes stand in the order in which they are first met, and so do the combined segments
-- of a class: it is the first part of kind stack in the first class that has one.
abbrev pub stack_part : List Segment → Option Segment
stack_part ss =
    option_and_then (λ opening. find (λ t. is_stack t && same_class opening t) ss) (find (opens_stack ss) ss)

-- a part of the stack with this first part
abbrev pub is_of : (stack : Segment) → Segment → Bool
is_of stack s = is_stack s && (bytes_eq stack.name s.name && same_class stack s)

-- how many bytes the stack has in these segments: its parts follow each other without a gap
abbrev pub stack_length : (stack : Segment) → List Segment → ℕ
stack_length stack ss = sum_by (λ s. s.length) (filter (is_of stack) ss)
