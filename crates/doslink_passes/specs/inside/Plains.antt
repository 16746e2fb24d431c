-- How the modules of a link are taken, as it is held.
use Rattle.std.specs.Prelude.{ℕ, Bool, List, map}
use Rattle.std.specs.declared.option.Option.{Option}
use Rattle.std.specs.Option.{option_map}
use Rattle.omf_comdat.specs.declared.fate.ComdatFate.{ComdatFate}
use Rattle.doslink_passes.specs.declared.plain.HowAll.{HowAll}
use Rattle.doslink_passes.specs.Meanings.{taking_by}
use Rattle.doslink_passes.specs.Plain.{Takes}

-- each of them
abbrev pub takes_in : {A : Type 0} → (keep_debug : Bool) → HowAll A → Takes
takes_in keep_debug how = taking_by keep_debug how.meanings.now

-- what becomes of their COMDAT records
abbrev pub fates_in : {A : Type 0} → HowAll A → List (List ComdatFate)
fates_in how = map (λ v. v.items) how.fates.now

-- the one that says where the program starts
abbrev pub made_in : {A : Type 0} → HowAll A → Option (List ℕ)
made_in how = option_map (λ b. b.now) how.made
