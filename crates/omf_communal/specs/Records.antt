-- The records of variables (TIS OMF 1.1, the section of each), and the bytes of a module that has nothing else: of one
-- with the variables of a program, or of one with the variables of a module, which are local publics.
use Rattle.std.specs.Prelude.{ℕ, ◌+◌, Bool, false, List, [], ◌∷◌, ◌++◌, map, if◌then◌else◌, Option, None}
use Rattle.std.specs.Prelude.{Some, codes}
use Rattle.omf_record.specs.declared.segments.SegmentDefinition.{SegmentDefinition}
use Rattle.omf_record.specs.declared.externals.PublicBase.TheVariants.{InSegment}
use Rattle.omf_record.specs.declared.segments.Alignment.TheVariants as align
use Rattle.omf_record.specs.declared.segments.Combination.TheVariants as combine
use Rattle.omf_record.specs.Record.{Record, Theadr, Lnames, Segdef, Grpdef, Pubdef, Modend}
use Rattle.omf_write.specs.Records.{records_bytes}
use Rattle.omf_write.specs.Segments.{segment_of_length}
use Rattle.omf_communal.specs.declared.places.Before.{Before}
use Rattle.omf_communal.specs.Plan.{Place, Plan, nothing_before}

-- the name of the group
abbrev pub dgroup : List ℕ
dgroup = codes "DGROUP"

-- the name of the near segment: `_BSS`, where a module has that in DGROUP
abbrev pub near_name : (in_bss : Bool) → List ℕ
near_name in_bss = if in_bss then codes "_BSS" else codes "c_common"

-- the near segment: public, at an even address, with the second name of the variables and the third as its class
abbrev pub near_definition : Before → (length : ℕ) → SegmentDefinition
near_definition before length =
    segment_of_length align.Word combine.Public2 length (before.names + 2) (before.names + 3)

-- a far segment: private, at a paragraph, with the fourth name, also as its class
abbrev pub far_definition : Before → (length : ℕ) → SegmentDefinition
far_definition before length =
    segment_of_length align.Paragraph combine.Private length (before.names + 4) (before.names + 4)

-- the near segment, if there is one, and the group DGROUP of it
abbrev pub near_records : Before → Option ℕ → List Record
near_records before None = []
near_records before (Some length) =
    Segdef (near_definition before length) ∷ Grpdef (before.names + 1) ((before.segments + 1) ∷ []) ∷ []

-- a far segment
abbrev pub far_record : Before → (length : ℕ) → Record
far_record before length = Segdef (far_definition before length)

-- the name of a variable, known to its module alone or to all
abbrev pub place_record : (local : Bool) → Place → Record
place_record local p = Pubdef local (InSegment p.group p.segment)
    (record { name = p.name; offset = p.offset; type_index = 0 } ∷ [])

-- the names of the group and the near segment; the class of that one, and the name of far segments and their class
abbrev pub near_names : (in_bss : Bool) → Record
near_names in_bss = Lnames (dgroup ∷ near_name in_bss ∷ [])

abbrev pub far_names : Record
far_names = Lnames (codes "BSS" ∷ codes "FAR_BSS" ∷ [])

-- what comes behind the names
abbrev pub placed_records : (local : Bool) → Before → Plan → List Record
placed_records local before p =
    near_records before p.near ++ (map (far_record before) p.far ++ map (place_record local) p.places)

-- all records of variables
abbrev pub variable_records : (local in_bss : Bool) → Before → Plan → List Record
variable_records local in_bss before p = near_names in_bss ∷ far_names ∷ placed_records local before p

-- the records of a module of variables
abbrev pub records : (local in_bss : Bool) → Plan → List Record
records local in_bss p =
    Theadr (codes "communal") ∷ (variable_records local in_bss nothing_before p ++ Modend false None ∷ [])

-- the module
abbrev pub module_bytes : (local in_bss : Bool) → Plan → List ℕ
module_bytes local in_bss p = records_bytes (records local in_bss p)
