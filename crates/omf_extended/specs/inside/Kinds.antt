-- The bodies of each type, by their parts.
use Rattle.std.specs.Prelude.{ℕ, List, Result, Ok, Err}
use Rattle.omf_codec.specs.inside.Format.{Format}
use Rattle.omf_codec.specs.inside.Wholes.{IsEnding}
use Rattle.omf_extended.specs.Answer.{Stands}
use Rattle.omf_extended.specs.Body.{BodyOf}
use Rattle.omf_extended.specs.Said.{Extended}
use Rattle.omf_extended.specs.declared.fault.ExtendedFault.{ExtendedFault}

-- the bodies of the type are what such parts spell
pub record IsBody {I P : Type 0} (F : Format I P) (kind : ℕ) : Type 0 where
  pub made : P → Extended
  pub to : (x : P) (text : List ℕ) → F.Text x text → BodyOf kind (made x) text
  pub from : (s : Extended) (text : List ℕ) → BodyOf kind s text → (x : P) × F.Text x text
  pub ending : IsEnding F

-- the parts of the body; or the one fault that stands
abbrev pub ReadsParts : {I P : Type 0} → Format I P → ℕ → List ℕ → Result I ExtendedFault → Type 0
ReadsParts F kind bytes (Ok parts) = F.Text (F.view parts) bytes
ReadsParts F kind bytes (Err fault) = Stands kind bytes fault
