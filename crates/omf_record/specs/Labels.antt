-- How it is printed that no record begins where one had to.
use Rattle.std.specs.Prelude.{ℕ, List, codes}
use Rattle.omf_frame.specs.Labels.{framing_label}
use Rattle.omf_record.specs.declared.fault.NoRecord.{NoRecord}
use Rattle.omf_record.specs.declared.fault.NoRecord.TheVariants as absent

-- the number and the name
abbrev pub no_record_label : NoRecord → ℕ × List ℕ
no_record_label (absent.Framing fault) = framing_label fault
no_record_label absent.Type = (5, codes "Type")
no_record_label (absent.Body at) = (6, codes "Body")
no_record_label absent.NoEnd = (8, codes "NoEnd")
