-- What becomes of the COMDAT records of modules: which COMDATs of one name are taken, and where they clash.
use Rattle.std.specs.Prelude.{◌≡◌, ℕ, IsErr, List, [], ◌∷◌, Ok}
use Rattle.omf_comdat.specs.Comdats.{AreComdats, ComdatRecord}
use Rattle.omf_comdat.specs.Fates as comdat
use Rattle.omf_comdat.specs.declared.fate.ComdatFate.{ComdatFate}
use Rattle.omf_library.specs.Records.{module_records}
use Rattle.omf_place.specs.declared.names.Names.{Names}

-- the modules that are given as these bytes have these COMDAT records
abbrev pub AreRecordsOf : (given : List (List ℕ)) → (records : List (List ComdatRecord)) → Type 0
AreRecordsOf [] [] = Unit {0}
AreRecordsOf (bytes ∷ given) (own ∷ records) =
    AreComdats [] (module_records bytes 0) own × AreRecordsOf given records
AreRecordsOf _ _ = ⊥

-- this becomes of them, where these modules are linked together
pub record AreFatesFor (names : Names) (given : List (List ℕ)) (fates : List (List ComdatFate)) : Type 0 where
  pub records : List (List ComdatRecord)
  pub are_records : AreRecordsOf given records
  pub decided : comdat.fates names records ≡ Ok fates

-- two of their COMDATs of one name clash
abbrev pub HaveClash : Names → (given : List (List ℕ)) → Type 0
HaveClash names given =
    (records : List (List ComdatRecord)) × AreRecordsOf given records × IsErr (comdat.fates names records)
