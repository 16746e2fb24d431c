-- What a module says, table by table.
use Rattle.std.specs.Prelude.{ℕ, ◌==◌, List, [], map, flat_map, filter_map}
use Rattle.std.specs.List.{enumerate_from}
use Rattle.std.specs.Option.{option_to_list}
use Rattle.std.specs.declared.option.Option.{Option}
use Rattle.omf_record.specs.Record.{Record, Lnames, Fixupp}
use Rattle.omf_record.specs.declared.fixups.Subrecord.{Subrecord}
use Rattle.omf_module.specs.declared.ResolvedFixup.{ResolvedFixup}
use Rattle.std.specs.Bool.{then_some}
use Rattle.omf_record.specs.Records.{Placed}
use Rattle.omf_module.specs.declared.Start.{Start}
use Rattle.omf_module.specs.Module.{Segment, Group, ExternalSymbol, PublicSymbol, DataRecord}
use Rattle.omf_module.specs.Before.{along, last}
use Rattle.omf_module.specs.Tables.{names, segments_in, groups_in, externals_in, publics_in, data_of, subrecords}
use Rattle.omf_module.specs.Tables.{fixups, data_record, start_in}

-- the names that a record lists
abbrev pub names_in : Record → List (List ℕ)
names_in (Lnames names) = names
names_in _ = []

-- the segments that these records define, each with the names before it
abbrev pub segments : List Placed → List Segment
segments records = along [] (λ before (placed : Placed). segments_in (names before) placed.says) records

-- the parts of groups that these records define, each with the names before it
abbrev pub groups : List Placed → List Group
groups records = along [] (λ before (placed : Placed). groups_in (names before) placed.says) records

-- the externals that these records list
abbrev pub externals : List Placed → List ExternalSymbol
externals records = flat_map (λ (placed : Placed). externals_in placed.says) records

-- the public symbols that these records define
abbrev pub publics : List Placed → List PublicSymbol
publics records = flat_map (λ (placed : Placed). publics_in placed.says) records

-- the data records of these records
abbrev pub data_records : List Placed → List DataRecord
data_records records = map (data_record (fixups records)) (enumerate_from 1 (data_of records))

-- the last start of these records
abbrev pub start : List Placed → Option Start
start records =
    last (along [] (λ before (p : Placed). option_to_list (start_in (subrecords before) p.place p.says)) records)

-- those that are on the data record of this number, which counts from 1
abbrev pub fixups_on : ℕ → List (ℕ × ResolvedFixup) → List ResolvedFixup
fixups_on number fixups =
    filter_map (λ (fixup : ℕ × ResolvedFixup). then_some (fixup.0 == number) fixup.1) fixups

-- the subrecords of a FIXUPP record
abbrev pub subrecords_in : Record → List Subrecord
subrecords_in (Fixupp subrecords) = subrecords
subrecords_in _ = []
