-- A builder of modules, which takes one record after the other: which records it takes, and what it then holds.
use Rattle.std.specs.Prelude.{◌≡◌, ℕ, ◌<◌, ◌≤◌, Bool, true, false, List, [], ◌∷◌, ◌++◌, map, Some, None, Ok, Err}
use Rattle.std.specs.declared.option.Option.{Option}
use Rattle.std.specs.declared.result.Result.{Result}
use Rattle.std.specs.List.{AllByRecursion, filter_map}
use Rattle.omf_record.specs.Record.{Record, Public, External, Pubdef, Extdef, Lnames, Segdef}
use Rattle.omf_record.specs.Records.{Placed}
use Rattle.omf_record.specs.Expansion.{data_len}
use Rattle.omf_record.specs.Numbers.{segment_len}
use Rattle.omf_record.specs.declared.externals.PublicBase.{PublicBase}
use Rattle.omf_record.specs.declared.externals.PublicBase.TheVariants.{AtFrame, InSegment}
use Rattle.omf_record.specs.declared.fixups.FrameMethod.{FrameMethod}
use Rattle.omf_record.specs.declared.fixups.TargetMethod.{TargetMethod}
use Rattle.omf_record.specs.declared.segments.Alignment.{Alignment}
use Rattle.omf_record.specs.declared.segments.Alignment.TheVariants as align
use Rattle.omf_module.specs.declared.builder.AddFault.{AddFault}
use Rattle.omf_module.specs.declared.builder.AddFault.TheVariants as adds
use Rattle.omf_module.specs.declared.builder.LastData.{LastData}
use Rattle.omf_module.specs.declared.builder.LastData.TheVariants.{Absent, Stored, Repeated}
use Rattle.omf_module.specs.declared.builder.ModuleBuilder.{ModuleBuilder}
use Rattle.omf_module.specs.declared.contents.Content.{Content}
use Rattle.omf_module.specs.Before.{last}
use Rattle.omf_module.specs.Faults.{fault, first_fault}
use Rattle.omf_module.specs.Module.{Module}
use Rattle.omf_module.specs.Sound.{IsShort}
use Rattle.omf_module.specs.Tables.{names, contents_in, subrecords, frame_thread, target_thread, module_of}

-- ---- which records are taken

-- names have at most 255 bytes
abbrev pub HasShortNames : Record → Type 0
HasShortNames (Lnames listed) = AllByRecursion IsShort listed
HasShortNames (Extdef local listed) = AllByRecursion (λ (e : External). IsShort e.name) listed
HasShortNames (Pubdef local base listed) = AllByRecursion (λ (p : Public). IsShort p.name) listed
HasShortNames _ = Unit {0}

-- a record that a module may hold: its names have at most 255 bytes, and its data fits a frame (TIS OMF 1.1, "Record
-- Format")
pub record IsTakable (r : Record) : Type 0 where
  pub names : HasShortNames r
  pub short : data_len r ≤ 65534

-- the frame of a base is a word
abbrev pub HasWordFrame : PublicBase → Type 0
HasWordFrame (AtFrame group frame) = frame < 65536
HasWordFrame (InSegment group segment) = Unit {0}

-- an absolute segment's frame is a word, and its offset a byte
abbrev pub HasWordAndByte : Alignment → Type 0
HasWordAndByte (align.Absolute frame offset) = (frame < 65536) × (offset < 256)
HasWordAndByte _ = Unit {0}

-- the numbers that a module keeps of a record fit their fields, as those of each record of the code do
abbrev pub FitsFields : Record → Type 0
FitsFields (Pubdef local base listed) = HasWordFrame base × AllByRecursion (λ (p : Public). p.offset < 65536) listed
FitsFields (Segdef s) = HasWordAndByte s.alignment × (segment_len s.length ≤ 65536)
FitsFields _ = Unit {0}

-- ---- what is held

-- what a builder keeps of the records so far: whether there is one, their names, what they say as a module, the threads
-- in force by their numbers, and the contents of the last data record
pub record Progress : Type 0 where
  pub begun : Bool
  pub names : List (List ℕ)
  pub said : Module
  pub frame_threads : List (Option FrameMethod)
  pub target_threads : List (Option TargetMethod)
  pub contents : Option (List (ℕ × ℕ))

-- there is a record
abbrev pub is_begun : List Placed → Bool
is_begun [] = false
is_begun (_ ∷ before) = true

-- of these records
abbrev pub progress_of : List Placed → Progress
progress_of records = record {
  begun = is_begun records;
  names = names records;
  said = module_of records;
  frame_threads = map (frame_thread (subrecords records)) (0 ∷ 1 ∷ 2 ∷ 3 ∷ []);
  target_threads = map (target_thread (subrecords records)) (0 ∷ 1 ∷ 2 ∷ 3 ∷ []);
  contents = last (filter_map (λ (placed : Placed). contents_in placed.says) records);
}

-- the contents that a builder keeps, each with its first stored place and its length
abbrev pub contents_of : {A : Type 0} → LastData A → Option (List (ℕ × ℕ))
contents_of Absent = None
contents_of (Stored len) = Some ((0, len) ∷ [])
contents_of (Repeated contents) = Some (map (λ (c : Content). (c.place, c.len)) contents.items)

-- of a builder
abbrev pub progress : {A : Type 0} → ModuleBuilder A → Progress
progress builder = record {
  begun = builder.begun;
  names = builder.store.names;
  said =
      record {
        segments = builder.store.segments;
        groups = builder.store.groups;
        externals = builder.store.externals;
        publics = builder.store.publics;
        data_records = builder.store.data_records;
        start = builder.start;
      };
  frame_threads = builder.frame_threads;
  target_threads = builder.target_threads;
  contents = contents_of builder.last_data;
}

-- the builder holds these records, which it took one after the other: no check refuses one of them
pub record Holds {A : Type 0} (records : List Placed) (builder : ModuleBuilder A) : Type 0 where
  pub keeps : progress builder ≡ progress_of records
  pub taken : AllByRecursion (λ (r : Placed). HasShortNames r.says × FitsFields r.says) records
  pub sound : first_fault records ≡ None

-- what adding a record to these gives: it is held behind them, or it has this fault; there may have been no memory
abbrev pub Adds : {A X : Type 0} → List Placed → Placed → (new : ModuleBuilder A) → Result X AddFault → Type 0
Adds records added new (Ok done) = Holds (records ++ added ∷ []) new
Adds records added new (Err adds.Memory) = Unit {0}
Adds records added new (Err (adds.Check check)) = fault records added.says ≡ Some check
