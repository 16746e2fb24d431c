-- Where names are missing: what was read and can be why.
use Rattle.std.specs.Prelude.{◌⊎◌, ℕ, All, Any, List, [], ◌∷◌, map}
use Rattle.omf_search.specs.Said as search
use Rattle.doslink_passes.specs.Plain.{AreFaultless, AreFaulty}
use Rattle.doslink_telling.specs.Offering.{Offering}
use Rattle.doslink_words.specs.declared.job.Job.{Job}

-- by what names mean in the modules that are given, the module of these bytes can't be read alone
abbrev pub IsFaulty : Job → (says : List search.Module) → (given : List (List ℕ)) → (bytes : List ℕ) → Type 0
IsFaulty job says given bytes = AreFaulty job says given (bytes ∷ [])

-- or it can
abbrev pub IsReadable : Job → (says : List search.Module) → (given : List (List ℕ)) → (bytes : List ℕ) → Type 0
IsReadable job says given bytes = AreFaultless job says given (bytes ∷ [])

-- A name may be missing for this: the modules that are linked can't be read together; or they can, but not a member by
-- which the symbol table of an archive offers a missing name.
abbrev pub HaveSuspect : Job → (says : List search.Module) → (modules : List (List ℕ)) → List Offering → Type 0
HaveSuspect job says modules offering =
    AreFaulty job says modules modules
    ⊎ (AreFaultless job says modules modules × Any (IsFaulty job says modules) (map (λ o. o.bytes) offering))

-- Nothing is: all can be read.
abbrev pub HaveNoSuspect : Job → (says : List search.Module) → (modules : List (List ℕ)) → List Offering → Type 0
HaveNoSuspect job says modules offering =
    AreFaultless job says modules modules × All (IsReadable job says modules) (map (λ o. o.bytes) offering)
