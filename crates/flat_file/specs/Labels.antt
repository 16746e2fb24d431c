-- What keeps a program from being a file of a form, as it is told.
use Rattle.std.specs.Prelude.{ℕ, List, codes}
use Rattle.flat_file.specs.declared.fault.FormFault.{FormFault}
use Rattle.flat_file.specs.declared.fault.FormFault.TheVariants.{Relocated, StackSegment, OtherStart, DataBelow, TooLong}

-- the number and the name
abbrev pub form_label : FormFault → ℕ × List ℕ
form_label Relocated = (68, codes "Relocated")
form_label StackSegment = (69, codes "StackSegment")
form_label OtherStart = (70, codes "OtherStart")
form_label DataBelow = (71, codes "DataBelow")
form_label TooLong = (72, codes "TooLong")
