-- How the faults of a program's file are printed.
use Rattle.std.specs.Prelude.{ℕ, List, codes}
use Rattle.mz.specs.declared.fault.FileFault.{FileFault}
use Rattle.mz.specs.declared.fault.FileFault.TheVariants.{Magic, Header, Truncated, RelocationOutside, DoesNotFit}
use Rattle.mz.specs.declared.fault.FileFault.TheVariants.{Device}

-- the number and the name
abbrev pub file_label : FileFault → ℕ × List ℕ
file_label Magic = (35, codes "Magic")
file_label Header = (36, codes "Header")
file_label Truncated = (37, codes "Truncated")
file_label RelocationOutside = (38, codes "RelocationOutside")
file_label DoesNotFit = (39, codes "DoesNotFit")
file_label Device = (40, codes "Device")
