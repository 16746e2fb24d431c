-- Bytes that are the text of one value.
use Rattle.std.specs.Prelude.{ℕ, List, [], ◌∷◌, Result, Ok, Err}
use Rattle.omf_codec.specs.Faults.{TextFault}
use Rattle.omf_codec.specs.inside.Format.{Format}
use Rattle.omf_codec.specs.declared.whole.WholeFault.{WholeFault}
use Rattle.omf_codec.specs.declared.whole.WholeFault.TheVariants.{Memory, Text}

-- behind a text nothing may stand, or anything
pub record IsEnding {I V : Type 0} (F : Format I V) : Type 0 where
  pub ended : F.Ends []
  pub goes_on : (a b : ℕ) (s t : List ℕ) → F.Ends (a ∷ s) → F.Ends (b ∷ t)

-- the value that they are the text of; or the one fault that stands
abbrev pub ReadsWhole : {I V : Type 0} → Format I V → List ℕ → Result I WholeFault → Type 0
ReadsWhole F bytes (Ok item) = F.Text (F.view item) bytes
ReadsWhole F bytes (Err (Text at)) = TextFault F.Text bytes at
ReadsWhole F bytes (Err Memory) = Unit {0}
