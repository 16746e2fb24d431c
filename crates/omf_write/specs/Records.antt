-- Records as they stand in a module (TIS OMF 1.1, "Record Format").
use Rattle.std.specs.Prelude.{ℕ, List}
use Rattle.std.specs.List.{flat_map}
use Rattle.omf_frame.specs.Frame.{frame}
use Rattle.omf_record.specs.Record.{Record}
use Rattle.omf_record.specs.Body.{kind_of}
use Rattle.omf_record.specs.Canonical.{canonical}

-- a record as a frame, with its canonical body
abbrev pub record_bytes : Record → List ℕ
record_bytes r = frame (kind_of r) (canonical r)

-- records, one after the other
abbrev pub records_bytes : List Record → List ℕ
records_bytes rs = flat_map record_bytes rs
