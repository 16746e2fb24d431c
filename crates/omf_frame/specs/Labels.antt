-- How the faults of framing are printed.
use Rattle.std.specs.Prelude.{ℕ, List, codes}
use Rattle.omf_frame.specs.declared.reading.FramingFault.{FramingFault}
use Rattle.omf_frame.specs.declared.reading.FramingFault.TheVariants.{ZeroLength, Truncated, Closing, InputTooLong}

-- the number and the name
abbrev pub framing_label : FramingFault → ℕ × List ℕ
framing_label ZeroLength = (2, codes "ZeroLength")
framing_label Truncated = (3, codes "Truncated")
framing_label Closing = (4, codes "Closing")
framing_label InputTooLong = (41, codes "InputTooLong")
