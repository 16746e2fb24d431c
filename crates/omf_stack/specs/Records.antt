-- The modules that add to a stack, or make one (TIS OMF 1.1, the section of each record).
use Rattle.std.specs.Prelude.{ℕ, Bool, false, if◌then◌else◌, List, [], ◌∷◌, ◌++◌, None, codes}
use Rattle.omf_record.specs.declared.segments.SegmentDefinition.{SegmentDefinition}
use Rattle.omf_record.specs.declared.segments.Alignment.TheVariants as align
use Rattle.omf_record.specs.declared.segments.Combination.TheVariants as combine
use Rattle.omf_record.specs.Record.{Record, Theadr, Lnames, Segdef, Grpdef, Modend}
use Rattle.omf_module.specs.Module.{Segment}
use Rattle.omf_write.specs.Records.{records_bytes}
use Rattle.omf_write.specs.Segments.{segment_of_length}

-- the name of the group, and that of a new stack and of its class
abbrev pub dgroup : List ℕ
dgroup = codes "DGROUP"

abbrev pub stack_name : List ℕ
stack_name = codes "STACK"

-- a part of the stack with this first part: its name and its class, at any byte
abbrev pub part_definition : (length : ℕ) → SegmentDefinition
part_definition length = segment_of_length align.Byte combine.Stack length 1 2

abbrev pub part_records : (stack : Segment) → (length : ℕ) → List Record
part_records stack length =
    Theadr (codes "stack") ∷ Lnames (stack.name ∷ stack.class ∷ []) ∷ Segdef (part_definition length)
    ∷ Modend false None ∷ []

-- a stack of its own: STACK of class STACK, at a paragraph, in DGROUP or not
abbrev pub new_definition : (length : ℕ) → SegmentDefinition
new_definition length = segment_of_length align.Paragraph combine.Stack length 2 2

abbrev pub group_records : (in_group : Bool) → List Record
group_records in_group = if in_group then Grpdef 1 (1 ∷ []) ∷ [] else []

abbrev pub new_records : (in_group : Bool) → (length : ℕ) → List Record
new_records in_group length =
    Theadr (codes "stack") ∷ Lnames (dgroup ∷ stack_name ∷ []) ∷ Segdef (new_definition length)
    ∷ (group_records in_group ++ Modend false None ∷ [])

-- the modules
abbrev pub part_bytes : (stack : Segment) → (length : ℕ) → List ℕ
part_bytes stack length = records_bytes (part_records stack length)

abbrev pub new_bytes : (in_group : Bool) → (length : ℕ) → List ℕ
new_bytes in_group length = records_bytes (new_records in_group length)
