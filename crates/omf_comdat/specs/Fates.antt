-- Which of the COMDATs of one name a link takes (TIS OMF 1.1, "Initialized Communal Data Record", the fields Continuation,
-- Local and Selection Criteria).
use Rattle.std.specs.Prelude.{ℕ, ◌+◌, ◌==◌, ◌&&◌, ◌||◌, not, max, Bool, true, false, if◌then◌else◌, List, [], ◌∷◌}
use Rattle.std.specs.Prelude.{◌++◌, length, find, Option, None, Some, Ok, Err}
use Rattle.std.specs.declared.result.Result.{Result}
use Rattle.std.specs.Bool.{beq}
use Rattle.std.specs.Option.{option_map_or}
use Rattle.std.specs.Str.{bytes_eq}
use Rattle.omf_extended.specs.declared.comdats.ComdatSelection.{ComdatSelection}
use Rattle.omf_extended.specs.declared.comdats.ComdatSelection.TheVariants.{NoMatch, SameSize, ExactMatch}
use Rattle.omf_library.specs.Records.{result_and_then}
use Rattle.omf_place.specs.Names.{agrees}
use Rattle.omf_place.specs.declared.names.Names.{Names}
use Rattle.omf_comdat.specs.Comdats.{ComdatRecord}
use Rattle.omf_comdat.specs.declared.fate.ComdatFate.{ComdatFate}
use Rattle.omf_comdat.specs.declared.fate.ComdatFate.TheVariants.{Opens, Continues, LeftOut, Stray}
use Rattle.omf_comdat.specs.declared.fault.ComdatDifference.{ComdatDifference}
use Rattle.omf_comdat.specs.declared.fault.ComdatDifference.TheVariants.{Size, Data}

-- ---- a COMDAT by its records

-- a record goes on with the COMDAT of this name
abbrev pub goes_on : (name : List ℕ) → ComdatRecord → Bool
goes_on name r = r.says.continuation && bytes_eq name r.name

-- those at the front that go on with it
abbrev pub going_on : (name : List ℕ) → List ComdatRecord → List ComdatRecord
going_on name [] = []
going_on name (r ∷ rs) = if goes_on name r then r ∷ going_on name rs else []

-- the COMDAT that the first record opens: that record, and those right behind it that go on with it
abbrev pub whole : List ComdatRecord → List ComdatRecord
whole [] = []
whole (r ∷ rs) = r ∷ going_on r.name rs

-- its length in bytes: where the data end that end last
abbrev pub size : List ComdatRecord → ℕ
size [] = 0
size (r ∷ rs) = max (r.says.offset + length r.bytes) (size rs)

-- the data of two records are the same
abbrev pub same_part : ComdatRecord → ComdatRecord → Bool
same_part r s =
    (beq r.says.iterated s.says.iterated && (r.says.offset == s.says.offset)) && bytes_eq r.bytes s.bytes

-- the data of two COMDATs are the same, record by record
abbrev pub same_data : List ComdatRecord → List ComdatRecord → Bool
same_data [] [] = true
same_data (r ∷ rs) (s ∷ ss) = same_part r s && same_data rs ss
same_data rs ss = false

-- ---- two of one name

-- a COMDAT that isn't local: the name and the selection of its opening record, its length, its records, and the index of
-- its module
pub record Shared : Type 0 where
  pub name : List ℕ
  pub selection : ComdatSelection
  pub size : ℕ
  pub records : List ComdatRecord
  pub «module» : ℕ

-- what the selections say
abbrev pub stands_alone : ComdatSelection → Bool
stands_alone NoMatch = true
stands_alone s = false

abbrev pub wants_size : ComdatSelection → Bool
wants_size SameSize = true
wants_size ExactMatch = true
wants_size s = false

abbrev pub wants_data : ComdatSelection → Bool
wants_data ExactMatch = true
wants_data s = false

-- whether another one is taken too, beside the first of its name, or how the two differ that have to be the same
abbrev pub verdict : (first other : Shared) → Result Bool ComdatDifference
verdict first other =
    if stands_alone first.selection || stands_alone other.selection then Ok true
    else if (wants_size first.selection || wants_size other.selection) && not (first.size == other.size)
    then Err Size
    else if (wants_data first.selection || wants_data other.selection) && not (same_data first.records other.records)
    then Err Data
    else Ok false

-- two that differ: the name as the other one spells it, and the indexes of both modules
pub record Clash : Type 0 where
  pub name : List ℕ
  pub first : ℕ
  pub other : ℕ
  pub differ : ComdatDifference

-- the first of each name so far, and with one more; and whether that is taken
pub record Met : Type 0 where
  pub firsts : List Shared
  pub taken : Bool

-- what a verdict means
abbrev pub judged : List Shared → (first other : Shared) → Result Bool ComdatDifference → Result Met Clash
judged firsts first other (Ok taken) = Ok (record { firsts = firsts; taken = taken })
judged firsts first other (Err differ) =
    Err (record { name = other.name; first = first.«module»; other = other.«module»; differ = differ })

-- one more behind the first of each name so far
abbrev pub meet : Names → List Shared → Shared → Result Met Clash
meet names firsts other = option_map_or (λ first. judged firsts first other (verdict first other))
    (find (λ first. agrees names other.name first.name) firsts)
    (Ok (record { firsts = firsts ++ other ∷ []; taken = true }))

-- ---- the records of a module

-- the COMDAT that records may go on with: its name, and whether it is taken
pub record Going : Type 0 where
  pub name : List ℕ
  pub taken : Bool

-- behind some records: the first of each name, and what those that follow may go on with
pub record Standing : Type 0 where
  pub firsts : List Shared
  pub going : Option Going

-- a record's fate, and what stands behind it
pub record Turn : Type 0 where
  pub fate : ComdatFate
  pub standing : Standing

-- of a record that says that it goes on
abbrev pub continued : Option Going → (name : List ℕ) → ComdatFate × Option Going
continued None name = (Stray, None)
continued (Some g) name =
    if bytes_eq g.name name then (if g.taken then Continues else LeftOut, Some g) else (Stray, None)

-- of one that opens a COMDAT of this length
abbrev pub opened : (name : List ℕ) → (length : ℕ) → (taken : Bool) → ComdatFate × Option Going
opened name length taken =
    (if taken then Opens length else LeftOut, Some (record { name = name; taken = taken }))

-- the COMDAT that a record of the module with this index opens, which is the first of these
abbrev pub shared : (index : ℕ) → ComdatRecord → (from : List ComdatRecord) → Shared
shared index r from = record {
  name = r.name;
  selection = r.says.selection;
  size = size (whole from);
  records = whole from;
  «module» = index;
}

-- how it meets those before it: a local one is always taken
abbrev pub met : Names → (index : ℕ) → List Shared → ComdatRecord → (from : List ComdatRecord) → Result Met Clash
met names index firsts r from =
    if r.says.local then Ok (record { firsts = firsts; taken = true }) else meet names firsts (shared index r from)

abbrev pub turned : List Shared → ComdatFate × Option Going → Turn
turned firsts p = record { fate = p.0; standing = record { firsts = firsts; going = p.1 } }

-- a record, which is the first of these
abbrev pub turn : Names → (index : ℕ) → Standing → ComdatRecord → (from : List ComdatRecord) → Result Turn Clash
turn names index s r from =
    if r.says.continuation then Ok (turned s.firsts (continued s.going r.name))
    else result_and_then (λ m. Ok (turned m.firsts (opened r.name (size (whole from)) m.taken)))
    (met names index s.firsts r from)

-- the fates of the records of the module with this index behind those told, and the first of each name then; or the first
-- clash
abbrev pub walked : Names → (index : ℕ) → (told : List ComdatFate) → Standing → List ComdatRecord
    → Result (List ComdatFate × List Shared) Clash
walked names index told s [] = Ok (told, s.firsts)
walked names index told s (r ∷ rs) =
    result_and_then (λ t. walked names index (told ++ t.fate ∷ []) t.standing rs) (turn names index s r (r ∷ rs))

-- ---- modules

-- of a whole module, behind others
abbrev pub module_fates : Names → (index : ℕ) → List Shared → List ComdatRecord
    → Result (List ComdatFate × List Shared) Clash
module_fates names index firsts rs = walked names index [] (record { firsts = firsts; going = None }) rs

-- the fates of modules behind those told, or the first clash
abbrev pub fates_behind : Names → (told : List (List ComdatFate)) → List Shared → List (List ComdatRecord)
    → Result (List (List ComdatFate)) Clash
fates_behind names told firsts [] = Ok told
fates_behind names told firsts (rs ∷ ms) =
    result_and_then (λ p. fates_behind names (told ++ p.0 ∷ []) p.1 ms)
    (module_fates names (length told) firsts rs)

-- the fates of the COMDAT records of all modules, or the first clash in the order of modules and records
abbrev pub fates : Names → List (List ComdatRecord) → Result (List (List ComdatFate)) Clash
fates names ms = fates_behind names [] [] ms
