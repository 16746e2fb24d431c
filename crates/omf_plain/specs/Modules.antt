-- Modules as they are given: their records, of any width, one behind the other in bytes, and what these say as the
-- fourteen.
use Rattle.std.specs.Prelude.{◌≡◌, ℕ, true, false, List, [], ◌∷◌, ◌++◌, drop, map, None, Some, Ok, Err}
use Rattle.std.specs.declared.result.Result.{Result}
use Rattle.std.specs.List.{AllByRecursion}
use Rattle.omf_frame.specs.Frame.{Frame, frame_at}
use Rattle.omf_library.specs.Records.{ends_module, place_behind}
use Rattle.omf_module.specs.Faults.{first_fault}
use Rattle.omf_module.specs.Module.{Module}
use Rattle.omf_module.specs.Tables.{module_of}
use Rattle.omf_record.specs.Record.{Record}
use Rattle.omf_record.specs.Records.{Placed}
use Rattle.omf_plain.specs.Comdats.{says_of, seen_behind}
use Rattle.omf_plain.specs.declared.fault.Obstacle.{Obstacle}
use Rattle.omf_plain.specs.declared.fault.RecordObstacle.{RecordObstacle}
use Rattle.omf_plain.specs.declared.fault.RecordObstacle.TheVariants as why
use Rattle.omf_plain.specs.declared.widths.Widths.{Widths}
use Rattle.omf_plain.specs.Given.{Given}
use Rattle.omf_plain.specs.Plain.{Taking}
use Rattle.omf_plain.specs.Reading.{IsGiven, IsGivenFault}
use Rattle.omf_plain.specs.Seen.{Seen, nothing_seen}
use Rattle.omf_plain.specs.Step.{◌>>=◌}
use Rattle.omf_plain.specs.Widths.{no_widths, either, record_widths}

-- a record as it is given: its frame, and what that says
pub record GivenRecord : Type 0 where
  pub frame : Frame
  pub says : Given

-- ---- records in bytes

-- the record stands at the place
abbrev pub StandsAt : (bytes : List ℕ) → (place : ℕ) → GivenRecord → Type 0
StandsAt bytes place g =
    (frame_at place (drop place bytes) ≡ Ok (Some g.frame)) × IsGiven g.frame.kind g.frame.body g.says

-- the records stand one behind the other, the first at the place
abbrev pub Stand : (bytes : List ℕ) → (place : ℕ) → List GivenRecord → Type 0
Stand bytes place [] = Unit {0}
Stand bytes place (g ∷ gs) = StandsAt bytes place g × Stand bytes (place_behind g.frame) gs

-- where they end
abbrev pub behind : (place : ℕ) → List GivenRecord → ℕ
behind place [] = place
behind place (g ∷ gs) = behind (place_behind g.frame) gs

-- none of them is MODEND
abbrev pub AreOpen : List GivenRecord → Type 0
AreOpen gs = AllByRecursion (λ (g : GivenRecord). ends_module g.frame.kind ≡ false) gs

-- the last one is, and none before it
abbrev pub AreToEnd : List GivenRecord → Type 0
AreToEnd [] = ⊥
AreToEnd (g ∷ []) = ends_module g.frame.kind ≡ true
AreToEnd (g ∷ h ∷ gs) = (ends_module g.frame.kind ≡ false) × AreToEnd (h ∷ gs)

-- ---- what they say

-- what is known behind records: of the module, what they say as the fourteen, and what they have of 32 bits
pub record Known : Type 0 where
  pub seen : Seen
  pub says : List Placed
  pub widths : Widths

-- before the first one
abbrev pub nothing_known : Known
nothing_known = record { seen = nothing_seen; says = []; widths = no_widths }

-- records of the fourteen, all at the place of a frame
abbrev pub placed : Frame → List Record → List Placed
placed f rs = map (λ says. record { place = f.place; body = f.body; says = says }) rs

-- behind one more, or what is in the way of it
abbrev pub known_after : Taking → Known → GivenRecord → Result Known Obstacle
known_after t k g = says_of t k.seen g.says >>= λ found. Ok (record {
  seen = seen_behind t k.seen g.says;
  says = k.says ++ placed g.frame found;
  widths = either k.widths (record_widths t k.seen g.says);
})

-- behind more, or the first obstacle
abbrev pub known_behind : Taking → Known → List GivenRecord → Result Known Obstacle
known_behind t k [] = Ok k
known_behind t k (g ∷ gs) = known_after t k g >>= λ next. known_behind t next gs

-- ---- modules

-- the given records begin the bytes, this is known behind them, and no check refuses what they say
pub record AreTaken (t : Taking) (bytes : List ℕ) (gs : List GivenRecord) (k : Known) : Type 0 where
  pub stand : Stand bytes 0 gs
  pub known : known_behind t nothing_known gs ≡ Ok k
  pub sound : first_fault k.says ≡ None

-- the bytes begin with this module, and it has this of 32 bits
abbrev pub IsPlainModule : Taking → (bytes : List ℕ) → Module → Widths → Type 0
IsPlainModule t bytes m w =
    (gs : List GivenRecord) × (k : Known) × AreTaken t bytes gs k × AreToEnd gs × (m ≡ module_of k.says)
    × (w ≡ k.widths)

-- Why the record at the place isn't taken, behind which this is known: no frame begins there; it says nothing;
-- something of it has no saying in the fourteen; or a check refuses a record that it is there, the first of them.
abbrev pub RefusedAt : Taking → (bytes : List ℕ) → Known → (place : ℕ) → RecordObstacle → Type 0
RefusedAt t bytes k place (why.Framing e) = frame_at place (drop place bytes) ≡ Err e
RefusedAt t bytes k place why.NoEnd = frame_at place (drop place bytes) ≡ Ok None
RefusedAt t bytes k place (why.Body f) =
    (frame : Frame) × (frame_at place (drop place bytes) ≡ Ok (Some frame)) × IsGivenFault frame.kind frame.body f
RefusedAt t bytes k place (why.Obstacle o) =
    (g : GivenRecord) × StandsAt bytes place g × (says_of t k.seen g.says ≡ Err o)
RefusedAt t bytes k place (why.Check c) =
    (g : GivenRecord) × StandsAt bytes place g
    × ((rs : List Record) × (says_of t k.seen g.says ≡ Ok rs)
    × (first_fault (k.says ++ placed g.frame rs) ≡ Some (place, c)))

-- The first fault of reading the bytes as a module, and its place: records that are taken, none of which is MODEND, and
-- behind them one that isn't.
abbrev pub IsPlainFault : Taking → (bytes : List ℕ) → (place : ℕ) → RecordObstacle → Type 0
IsPlainFault t bytes place obstacle =
    (gs : List GivenRecord) × (k : Known) × AreTaken t bytes gs k × AreOpen gs × (place ≡ behind 0 gs)
    × RefusedAt t bytes k place obstacle
