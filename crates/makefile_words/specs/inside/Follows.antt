-- What functions within the crate answer.
use Rattle.std.specs.Prelude.{◌≡◌, ⊤, ◌∷◌, ◌++◌, Result, Ok, Err}
use Rattle.std.specs.Option.{option_map}
use Rattle.clap.specs.Words.{Text}
use Rattle.makefile_words.specs.Cut.{SaidCut}
use Rattle.makefile_words.specs.declared.cut.Cut.{Cut}
use Rattle.makefile_words.specs.declared.faults.FaultKind.{FaultKind}
use Rattle.makefile_words.specs.declared.faults.WordFault.{WordFault}
use Rattle.makefile_words.specs.declared.faults.WordFault.TheVariants.{Memory, Wrong}

-- an answer is what is meant, seen so, or memory was wanting
abbrev pub Gives : {A B : Type 0} → (A → B) → Result A WordFault → Result B FaultKind → Type 0
Gives view (Ok value) meant = meant ≡ Ok (view value)
Gives view (Err Memory) meant = ⊤
Gives view (Err (Wrong kind)) meant = meant ≡ Err kind

-- a change to this is what is meant, or memory was wanting
abbrev pub Follows : {A : Type 0} → Result Unit WordFault → Result A FaultKind → A → Type 0
Follows (Ok done) meant after = meant ≡ Ok after
Follows (Err Memory) meant after = ⊤
Follows (Err (Wrong kind)) meant after = meant ≡ Err kind

-- what a word is, by its texts
abbrev pub cut_of : Cut → SaidCut
cut_of cut = record {
  name = option_map (λ text. text.now) cut.name;
  options = option_map (λ text. text.now) cut.options;
}

-- a text begins with this, behind which `/` stands
abbrev pub HasBehind : (front text : Text) → Type 0
HasBehind front text = (last : Text) × (text ≡ front ++ (47 ∷ last))
