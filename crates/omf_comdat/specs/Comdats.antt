-- The COMDAT records that a module has (TIS OMF 1.1, "Initialized Communal Data Record").
use Rattle.std.specs.Prelude.{◌≡◌, ℕ, Bool, List, [], ◌∷◌, ◌++◌, map, Option, Some, None, option_to_list}
use Rattle.omf_frame.specs.Frame.{Frame}
use Rattle.omf_extended.specs.Body.{BodyOf}
use Rattle.omf_extended.specs.Said.{Comdat}
use Rattle.omf_extended.specs.declared.comdats.Comdat as said
use Rattle.omf_library.specs.Entries.{listed_name}
use Rattle.omf_library.specs.Listed.{listed_in}
use Rattle.omf_comdat.specs.declared.records.ComdatRecord as lent

-- a record: its name, what it says before its data, and its data
pub record ComdatRecord : Type 0 where
  pub name : List ℕ
  pub says : said.Comdat
  pub bytes : List ℕ

-- one without where its bytes lie in memory
abbrev pub record_said : lent.ComdatRecord → ComdatRecord
record_said r = record { name = r.name.now; says = r.says; bytes = r.bytes.now }

abbrev pub records_said : List lent.ComdatRecord → List ComdatRecord
records_said rs = map record_said rs

-- the frame is a COMDAT whose name is listed
pub record IsComdat (listed : List (List ℕ)) (f : Frame) (r : ComdatRecord) : Type 0 where
  pub wide : Bool
  pub body : BodyOf f.kind (Comdat wide r.says r.bytes) f.body
  pub name : listed_name listed r.says.name ≡ Some r.name

-- the frame is this one, or none
abbrev pub IsIn : (listed : List (List ℕ)) → Frame → Option ComdatRecord → Type 0
IsIn listed f None = (r : ComdatRecord) → IsComdat listed f r → ⊥
IsIn listed f (Some r) = IsComdat listed f r

-- the COMDAT records of frames, in their order, each by the names that those before it have listed
abbrev pub AreComdats : (listed : List (List ℕ)) → List Frame → List ComdatRecord → Type 0
AreComdats listed [] rs = rs ≡ []
AreComdats listed (f ∷ fs) rs =
    (here : Option ComdatRecord) × (more : List ComdatRecord) × IsIn listed f here
    × AreComdats (listed ++ listed_in f) fs more × (rs ≡ option_to_list here ++ more)
