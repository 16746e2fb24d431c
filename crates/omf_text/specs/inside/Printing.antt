-- What a writer did that holds an end of its text back.
use Rattle.std.specs.Prelude.{◌≡◌, ℕ, ◌+◌, List, ◌++◌, Ok, Err}
use Rattle.std.specs.declared.option.Option.{Option}
use Rattle.std.specs.declared.result.Result.{Result}
use Rattle.std.specs.Io.KnownBytes.{Appends}
use Rattle.omf_frame.specs.Device.{AppendsFront}

-- the text was appended, but for an end of it that is held back
abbrev pub AppendsBut : (held : List ℕ) (old new : Option (List ℕ)) → List ℕ → Type 0
AppendsBut held old new text = (front : List ℕ) × (text ≡ front ++ held) × Appends old new front

-- as `Wrote`, but that an end of the text may be held back
abbrev pub WroteBut : {X E : Type 0} → (held : List ℕ) → (old new : Option (List ℕ)) → (before after : ℕ)
    → (text : List ℕ) → Result X E → Type 0
WroteBut held old new before after text (Ok x) = AppendsBut held old new text × (after ≡ before)
WroteBut held old new before after text (Err e) = AppendsFront old new text × (after ≡ before + 1)
