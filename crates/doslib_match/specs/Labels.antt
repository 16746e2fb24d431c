-- The numbers and names of why a member isn't read as a module: of no record those that `list` tells, and of a record
-- of some type those that a link tells.
use Rattle.std.specs.Prelude.{ℕ, ◌==◌, ◌||◌, Bool, if◌then◌else◌, List, codes}
use Rattle.omf_extended.specs.declared.fault.ExtendedFault.TheVariants as later
use Rattle.omf_frame.specs.declared.reading.FramingFault.{FramingFault}
use Rattle.omf_frame.specs.declared.reading.FramingFault.TheVariants as framing
use Rattle.omf_module.specs.Labels.{check_label}
use Rattle.omf_plain.specs.declared.fault.GivenFault.{GivenFault}
use Rattle.omf_plain.specs.declared.fault.GivenFault.TheVariants as given
use Rattle.omf_plain.specs.declared.fault.Obstacle.{Obstacle}
use Rattle.omf_plain.specs.declared.fault.Obstacle.TheVariants as obstacle
use Rattle.omf_plain.specs.declared.fault.RecordObstacle.{RecordObstacle}
use Rattle.omf_plain.specs.declared.fault.RecordObstacle.TheVariants as why
use Rattle.omf_record.specs.declared.parse.RecordFault.TheVariants as narrow
use Rattle.omf_wide.specs.declared.fault.WideFault.TheVariants as wide

-- no record begins
abbrev pub framing_label : FramingFault → ℕ × List ℕ
framing_label framing.ZeroLength = (43, codes "ZeroLength")
framing_label framing.Truncated = (44, codes "Truncated")
framing_label framing.Closing = (45, codes "Closing")
framing_label framing.InputTooLong = (41, codes "InputTooLong")

-- MODEND, SEGDEF or FIXUPP, of those whose records say the same with 16 and with 32 bits
abbrev pub is_of_16_bits : (kind : ℕ) → Bool
is_of_16_bits kind = kind == 0x8A || kind == 0x98 || kind == 0x9C

-- the body of such a record isn't one of its type: of 16 bits it is one that `omf` reads, the others a link alone takes
abbrev pub wide_label : (kind : ℕ) → ℕ × List ℕ
wide_label kind = (if is_of_16_bits kind then 6 else 51, codes "Body")

-- COMDEF, the communal variables that modules share
abbrev pub is_communal : (kind : ℕ) → Bool
is_communal kind = kind == 0xB0

-- LCOMDEF or ALIAS
abbrev pub is_taken_too : (kind : ℕ) → Bool
is_taken_too kind = kind == 0xB8 || kind == 0xC6

-- the body of a record that came after Intel's isn't one of its type; beside those of these types none is linked
abbrev pub later_label : (kind : ℕ) → ℕ × List ℕ
later_label kind =
    if is_communal kind then (53, codes "Body")
    else if is_taken_too kind then (51, codes "Body")
    else (5, codes "Type")

-- a frame of this type holds no record: its type is none that is linked, or its body isn't one of its type
abbrev pub body_label : (kind : ℕ) → GivenFault → ℕ × List ℕ
body_label kind (given.Narrow narrow.OtherType) = (5, codes "Type")
body_label kind (given.Narrow _) = (6, codes "Body")
body_label kind (given.Wide wide.OtherType) = (5, codes "Type")
body_label kind (given.Wide (wide.Above16Bits at)) = (49, codes "Above16Bits")
body_label kind (given.Wide _) = wide_label kind
body_label kind (given.Data (wide.Above16Bits at)) = (49, codes "Above16Bits")
body_label kind (given.Data _) = (51, codes "Body")
body_label kind (given.Repeated _) = (51, codes "Body")
body_label kind (given.Later later.OtherType) = (5, codes "Type")
body_label kind (given.Later _) = later_label kind

-- a communal variable is neither near nor far
abbrev pub data_type_label : (kind : ℕ) → ℕ × List ℕ
data_type_label kind = (if is_communal kind then 54 else 48, codes "DataType")

-- something of a record of this type has no saying in the fourteen
abbrev pub saying_label : (kind : ℕ) → Obstacle → ℕ × List ℕ
saying_label kind obstacle.OtherType = (5, codes "Type")
saying_label kind obstacle.DataType = data_type_label kind
saying_label kind obstacle.Above16Bits = (49, codes "Above16Bits")
saying_label kind obstacle.OutsideData = (50, codes "Location")
saying_label kind obstacle.Body = wide_label kind
saying_label kind obstacle.TooLong = (52, codes "TooLong")
saying_label kind obstacle.EasyOmf = (63, codes "EasyOmf")
saying_label kind obstacle.ImportedName = (64, codes "ImportedName")
saying_label kind obstacle.FlatFrame = (65, codes "FlatFrame")
saying_label kind obstacle.LateSegment = (80, codes "LateSegment")

-- a record of this type isn't taken
abbrev pub obstacle_label : (kind : ℕ) → RecordObstacle → ℕ × List ℕ
obstacle_label kind (why.Framing fault) = framing_label fault
obstacle_label kind why.NoEnd = (44, codes "Truncated")
obstacle_label kind (why.Body fault) = body_label kind fault
obstacle_label kind (why.Obstacle found) = saying_label kind found
obstacle_label kind (why.Check check) = check_label check
