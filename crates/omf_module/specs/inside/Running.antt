-- What a reader keeps while it goes forward, and one step of it. `state_of` says what it stands for.
use Rattle.std.specs.Prelude.{ℕ, ◌-◌, Bool, true, List, [], ◌∷◌, ◌++◌, length, map, Option, None, Some, Result, Ok, Err}
use Rattle.std.specs.Prelude.{slice_index_or, slice_set}
use Rattle.std.specs.Option.{option_to_list}
use Rattle.omf_record.specs.Record.{Record, Theadr, Coment, Modend, Extdef, Pubdef, Linnum, Lnames, Segdef, Grpdef}
use Rattle.omf_record.specs.Record.{Fixupp, Ledata, Lidata}
use Rattle.omf_record.specs.Expansion.{expansion, contents}
use Rattle.omf_record.specs.inside.Fields.{stored_from}
use Rattle.omf_record.specs.Numbers.{thread_number}
use Rattle.omf_record.specs.Records.{Placed}
use Rattle.omf_record.specs.declared.fixups.FrameMethod.{FrameMethod}
use Rattle.omf_record.specs.declared.fixups.TargetMethod.{TargetMethod}
use Rattle.omf_record.specs.declared.fixups.Subrecord.{Subrecord}
use Rattle.omf_record.specs.declared.fixups.Subrecord.TheVariants as sub
use Rattle.omf_module.specs.declared.fault.CheckFault.{CheckFault}
use Rattle.omf_module.specs.declared.ResolvedFixup.{ResolvedFixup}
use Rattle.omf_module.specs.declared.Start.{Start}
use Rattle.omf_module.specs.Module.{PublicSymbol, DataRecord, Module}
use Rattle.omf_module.specs.Before.{first, entry}
use Rattle.omf_module.specs.Tables.{subrecords, frame_thread}
use Rattle.omf_module.specs.inside.Entries.{segment_of, group_of, external_of, public_of}
use Rattle.omf_module.specs.Tables.{target_thread, used}
use Rattle.omf_module.specs.inside.Checking.{fixup_of, start_of}
use Rattle.omf_module.specs.inside.Said.{data_records, publics}
use Rattle.omf_module.specs.inside.Said.{start}
use Rattle.omf_module.specs.inside.Checking.{group_items}
use Rattle.omf_module.specs.inside.Checking.{segment_fault}
use Rattle.omf_module.specs.inside.Checking.{Tables, tables, begun, opening_fault}
use Rattle.omf_module.specs.inside.Contents.{last_contents}
use Rattle.omf_module.specs.Faults.{public_fault, data_fault}
use Rattle.omf_module.specs.inside.Checking.{fixup_fault, start_fault}

pub record State : Type 0 where
  pub begun : Bool
  pub tables : Tables
  pub publics : List PublicSymbol
  pub frame_threads : List (Option FrameMethod)
  pub target_threads : List (Option TargetMethod)
  pub data_records : List DataRecord
  pub contents : Option (List (ℕ × ℕ))
  pub start : Option Start

-- the numbers of the threads
abbrev pub thread_numbers : List ℕ
thread_numbers = 0 ∷ 1 ∷ 2 ∷ 3 ∷ []

-- what is kept after these records
abbrev pub state_of : List Placed → State
state_of records = record {
  begun = begun records;
  tables = tables records;
  publics = publics records;
  frame_threads = map (frame_thread (subrecords records)) thread_numbers;
  target_threads = map (target_thread (subrecords records)) thread_numbers;
  data_records = data_records records;
  contents = last_contents records;
  start = start records;
}

-- the module of what is kept
abbrev pub module_in : State → Module
module_in state = record {
  segments = state.tables.segments;
  groups = state.tables.groups;
  externals = state.tables.externals;
  publics = state.publics;
  data_records = state.data_records;
  start = state.start;
}

infixl 10 ◌>>=◌
abbrev pub ◌>>=◌ : {A B : Type 0} → Result A CheckFault → (A → Result B CheckFault) → Result B CheckFault
(Ok value) >>= next = next value
(Err fault) >>= next = Err fault

-- the first fault of a group's name and components
abbrev pub group_fault : Tables → ℕ → List ℕ → Option CheckFault
group_fault tables name components = first (group_items tables.names tables.segments name components)

-- the state, unless there is a fault
abbrev pub checked : {A : Type 0} → Option CheckFault → A → Result A CheckFault
checked None value = Ok value
checked (Some fault) value = Err fault

abbrev pub slot : {A : Type 0} → List (Option A) → ℕ → Option A
slot slots number = slice_index_or slots number None

-- the later one, where it is there
abbrev pub later : {A : Type 0} → Option A → Option A → Option A
later (Some value) other = Some value
later None other = other

-- fix-ups added to the last data record
abbrev pub add_to_last : List ResolvedFixup → List DataRecord → List DataRecord
add_to_last fixups [] = []
add_to_last fixups (d ∷ []) = record d { fixups = d.fixups ++ fixups } ∷ []
add_to_last fixups (d ∷ e ∷ ds) = d ∷ add_to_last fixups (e ∷ ds)

abbrev pub add_data : State → (place segment offset : ℕ) → (pairs contents : List (ℕ × ℕ)) → State
add_data state place segment offset pairs contents = record state {
  data_records =
      state.data_records ++ record { place = place; segment = segment; offset = offset; pairs = pairs; fixups = [] }
      ∷ [];
  contents = Some contents;
}

unfoldable pub step_subrecord : ℕ → State → Subrecord → Result State CheckFault
step_subrecord place state (sub.SetFrame thread method) =
    Ok (record state { frame_threads = slice_set state.frame_threads (thread_number thread) (Some method) })
step_subrecord place state (sub.SetTarget thread method) =
    Ok (record state { target_threads = slice_set state.target_threads (thread_number thread) (Some method) })
step_subrecord place state (sub.Fixup fixup) =
    let frame = used (slot state.frame_threads) fixup.reference.frame in
    let target = used (slot state.target_threads) fixup.reference.target in
    checked (fixup_fault (module_in state) frame target state.contents fixup)
    (record state {
      data_records =
          add_to_last (option_to_list (fixup_of place fixup frame target)) state.data_records;
    })

unfoldable pub step_subrecords : ℕ → State → List Subrecord → Result State CheckFault
step_subrecords place state [] = Ok state
step_subrecords place state (x ∷ xs) = step_subrecord place state x >>= λ next. step_subrecords place next xs

unfoldable pub step_record : ℕ → State → Record → Result State CheckFault
step_record place state (Theadr name) = Ok state
step_record place state (Coment kind class bytes) = Ok state
step_record place state (Linnum group segment lines) = Ok state
step_record place state (Lnames listed) =
    Ok (record state { tables = record state.tables { names = state.tables.names ++ listed } })
step_record place state (Segdef definition) =
    checked (segment_fault state.tables.names definition)
    (record state {
      tables =
          record state.tables { segments = state.tables.segments ++ segment_of state.tables.names definition ∷ [] };
    })
step_record place state (Grpdef name components) =
    checked (group_fault state.tables name components)
    (record state {
      tables =
          record state.tables { groups = state.tables.groups ++ group_of state.tables.names name components ∷ [] };
    })
step_record place state (Extdef local listed) =
    Ok (record state {
      tables =
          record state.tables { externals = state.tables.externals ++ map (external_of local) listed };
    })
step_record place state (Pubdef local base listed) =
    checked (public_fault (module_in state) base)
    (record state { publics = state.publics ++ map (public_of local base) listed })
step_record place state (Ledata segment offset bytes) =
    checked (data_fault (entry state.tables.segments segment) offset (length bytes))
    (add_data state place (segment - 1) offset (stored_from 0 bytes) ((0, length bytes) ∷ []))
step_record place state (Lidata segment offset blocks) =
    checked (data_fault (entry state.tables.segments segment) offset (length (expansion blocks)))
    (add_data state place (segment - 1) offset (expansion blocks) (contents blocks))
step_record place state (Fixupp subs) = step_subrecords place state subs
step_record place state (Modend main None) = Ok state
step_record place state (Modend main (Some reference)) =
    let frame = used (slot state.frame_threads) reference.frame in
    let target = used (slot state.target_threads) reference.target in
    checked (start_fault (module_in state) frame target)
    (record state { start = later (start_of place reference frame target) state.start })

-- one record, which stands at this place
unfoldable pub step : State → (place : ℕ) → Record → Result State CheckFault
step state place record' =
    checked (opening_fault state.begun record') (record state { begun = true })
    >>= λ next. step_record place next record'
