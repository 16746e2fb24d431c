-- What reading a module as it is given answers.
use Rattle.std.specs.Prelude.{◌≡◌, ℕ, List, Ok, Err}
use Rattle.std.specs.declared.result.Result.{Result}
use Rattle.omf_module.specs.Module.{Module}
use Rattle.omf_plain.specs.declared.fault.PlainModuleFault.{PlainModuleFault}
use Rattle.omf_plain.specs.declared.fault.PlainModuleFault.TheVariants.{Memory, Record}
use Rattle.omf_plain.specs.declared.modules.PlainModule.{PlainModule}
use Rattle.omf_plain.specs.declared.widths.Widths.{Widths}
use Rattle.omf_plain.specs.Modules.{IsPlainModule, IsPlainFault}
use Rattle.omf_plain.specs.Plain.{Taking}

-- the module; or the first fault, and then there is no module; unless memory runs out
abbrev pub ModuleAnswers : {A : Type 0} → Taking → List ℕ → Result (PlainModule A) PlainModuleFault → Type 0
ModuleAnswers t bytes (Ok answer) = IsPlainModule t bytes answer.module answer.widths
ModuleAnswers t bytes (Err Memory) = Unit {0}
ModuleAnswers t bytes (Err (Record place why)) =
    IsPlainFault t bytes place why × ((m : Module) (w : Widths) → IsPlainModule t bytes m w → ⊥)
