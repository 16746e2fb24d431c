-- The COMDAT record that a frame is, as the code finds it.
use Rattle.std.specs.Prelude.{◌≡◌, ℕ, List, ◌++◌, Option, None, option_map, option_to_list}
use Rattle.omf_extended.specs.declared.comdats.Comdat as said
use Rattle.omf_extended.specs.Said.{Extended, Comdat}
use Rattle.omf_frame.specs.Frame.{Frame}
use Rattle.omf_library.specs.Entries.{listed_name}
use Rattle.omf_comdat.specs.Comdats.{ComdatRecord, IsIn}

-- the record that says this, if its name is listed
abbrev pub named : (listed : List (List ℕ)) → said.Comdat → (bytes : List ℕ) → Option ComdatRecord
named listed says bytes =
    option_map (λ name. record { name = name; says = says; bytes = bytes }) (listed_name listed says.name)

-- the record that a body says, if it says a COMDAT whose name is listed
abbrev pub found : (listed : List (List ℕ)) → Extended → Option ComdatRecord
found listed (Comdat wide comdat bytes) = named listed comdat bytes
found listed _ = None

-- records with the one that a frame is
pub record IsPushed (listed : List (List ℕ)) (f : Frame) (old new : List ComdatRecord) : Type 0 where
  pub here : Option ComdatRecord
  pub found : IsIn listed f here
  pub pushed : new ≡ old ++ option_to_list here
