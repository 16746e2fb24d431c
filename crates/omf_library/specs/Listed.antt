-- The names that have an index in a module, and what records say by them.
use Rattle.std.specs.Prelude.{ℕ, ◌==◌, ◌||◌, if◌then◌else◌, List, [], ◌∷◌, ◌++◌}
use Rattle.omf_frame.specs.Frame.{Frame}
use Rattle.omf_library.specs.Fields.{name_front}
use Rattle.omf_library.specs.Entries.{entries}

-- the names that a record adds to those with an index: 96H LNAMES, CAH LLNAMES
unfoldable pub listed_in : Frame → List (List ℕ)
listed_in f = if (f.kind == 0x96) || (f.kind == 0xCA) then entries name_front f.body else []

-- what the records say, each by the names that those before it have listed
abbrev pub said_by : {A : Type 0} → (List (List ℕ) → Frame → List A) → List (List ℕ) → List Frame → List A
said_by says listed [] = []
said_by says listed (f ∷ fs) = says listed f ++ said_by says (listed ++ listed_in f) fs
