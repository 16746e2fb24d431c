-- The bytes of a module of variables are those of a whole module that no check refuses.
use Rattle.std.specs.Prelude.{◌≡◌, ◌<◌, ◌≤◌, Bool, List, Ok, length}
use Rattle.std.specs.List.{AllByRecursion}
use Rattle.omf_frame.specs.Frame.{place_limit}
use Rattle.omf_frame.specs.Primitives.{IsBytes}
use Rattle.omf_module.specs.Bytes.{ModuleBytes}
use Rattle.omf_record.specs.Records.{Placed}
use Rattle.omf_communal.specs.Deciding.{Variable}
use Rattle.omf_communal.specs.Plan.{Plan, nothing_before, plan}
use Rattle.omf_communal.specs.Records.{module_bytes}

-- the name of a variable is at most 255 bytes
abbrev pub IsNamed : Variable → Type 0
IsNamed v = (length v.name ≤ 255) × IsBytes v.name

-- the bytes for a plan are those of a whole module
abbrev pub IsWhole : (local in_bss : Bool) → Plan → Type 0
IsWhole local in_bss p = (rs : List Placed) × ModuleBytes rs (module_bytes local in_bss p)

-- So they are for all variables that have places, local ones or a program's, where the module is no longer than an
-- input may be.
abbrev pub AreWhole : (local : Bool) → Type 0
AreWhole local =
    (in_bss : Bool) (vs : List Variable) (p : Plan) → AllByRecursion IsNamed vs → plan nothing_before vs ≡ Ok p →
    length (module_bytes local in_bss p) < place_limit → IsWhole local in_bss p
