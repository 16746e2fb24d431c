-- What a fault of a check is printed by.
use Rattle.std.specs.Prelude.{ℕ, List, codes}
use Rattle.omf_module.specs.declared.fault.CheckFault.{CheckFault}
use Rattle.omf_module.specs.declared.fault.CheckFault.TheVariants.{NotHeader, NameIndex, SegmentIndex, GroupIndex}
use Rattle.omf_module.specs.declared.fault.CheckFault.TheVariants.{ExternalIndex, ThreadNotSet, FixupBeforeData}
use Rattle.omf_module.specs.declared.fault.CheckFault.TheVariants.{FixupPlace, DataOutside, DataInAbsolute}
use Rattle.omf_module.specs.declared.fault.CheckFault.TheVariants.{SelfRelativeBase, FrameOfLocation, GroupOfAbsolute}

-- the number and the name with which a fault is printed
abbrev pub check_label : CheckFault → ℕ × List ℕ
check_label NotHeader = (7, codes "NotHeader")
check_label NameIndex = (10, codes "NameIndex")
check_label SegmentIndex = (11, codes "SegmentIndex")
check_label GroupIndex = (12, codes "GroupIndex")
check_label ExternalIndex = (13, codes "ExternalIndex")
check_label ThreadNotSet = (14, codes "ThreadNotSet")
check_label FixupBeforeData = (15, codes "FixupBeforeData")
check_label FixupPlace = (16, codes "FixupPlace")
check_label DataOutside = (17, codes "DataOutside")
check_label DataInAbsolute = (18, codes "DataInAbsolute")
check_label SelfRelativeBase = (19, codes "SelfRelativeBase")
check_label FrameOfLocation = (20, codes "FrameOfLocation")
check_label GroupOfAbsolute = (21, codes "GroupOfAbsolute")
