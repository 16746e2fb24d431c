-- The bodies of each type, by their parts.
use Rattle.std.specs.Prelude.{◌≡◌, ℕ, List, Result, Ok, Err}
use Rattle.omf_codec.specs.Faults.{TextFault}
use Rattle.omf_codec.specs.inside.Format.{Format}
use Rattle.omf_codec.specs.inside.Wholes.{IsEnding}
use Rattle.omf_wide.specs.Answer.{Stands}
use Rattle.omf_wide.specs.Body.{BodyOf, NarrowBodyOf}
use Rattle.omf_wide.specs.Said.{Said}
use Rattle.omf_wide.specs.declared.fault.WideFault.{WideFault}
use Rattle.omf_wide.specs.declared.fault.WideFault.TheVariants.{Memory, OtherType, Body, Above16Bits}

-- the bodies of the type are what such parts spell
pub record IsBody {I P : Type 0} (F : Format I P) (kind : ℕ) : Type 0 where
  pub made : P → Said
  pub to : (x : P) (text : List ℕ) → F.Text x text → BodyOf kind (made x) text
  pub from : (s : Said) (text : List ℕ) → BodyOf kind s text → (x : P) × (made x ≡ s) × F.Text x text
  pub ending : IsEnding F

-- the same of those whose numbers have 16 bits
pub record IsNarrowBody {I P : Type 0} (F : Format I P) (kind : ℕ) : Type 0 where
  pub made : P → Said
  pub to : (x : P) (text : List ℕ) → F.Text x text → NarrowBodyOf kind (made x) text
  pub from : (s : Said) (text : List ℕ) → NarrowBodyOf kind s text → (x : P) × F.Text x text
  pub ending : IsEnding F

-- the parts of the body; or the one fault that stands
abbrev pub ReadsParts : {I P : Type 0} → Format I P → ℕ → List ℕ → Result I WideFault → Type 0
ReadsParts F kind bytes (Ok parts) = F.Text (F.view parts) bytes
ReadsParts F kind bytes (Err fault) = Stands kind bytes fault

-- Where no text of another format goes on: such a fault of this one at the same place, or that it isn't wrong there.
abbrev pub Tells : {I P : Type 0} → Format I P → List ℕ → ℕ → WideFault → Type 0
Tells F bytes at Memory = Unit {0}
Tells F bytes at OtherType = ⊥
Tells F bytes at (Body place) = (place ≡ at) × TextFault F.Text bytes at
Tells F bytes at (Above16Bits place) = (place ≡ at) × (TextFault F.Text bytes at → ⊥)
