-- What opening a file answers.
use Rattle.std.specs.Prelude.{◌≡◌, ℕ, List}
use Rattle.std.specs.declared.option.Option.{Option}
use Rattle.std.specs.Io.Buffered.{reader_remaining}
use Rattle.omf_files.specs.declared.files.Stage.{Stage}
use Rattle.omf_files.specs.declared.files.Stage.TheVariants.{Waiting, Open, Failed, NoMemory, Finished}

-- a file with these bytes was opened and no byte of it read, or it couldn't be opened
abbrev pub IsOpenedAt : {F A : Type 0} → (F → Option (List ℕ)) → Option (List ℕ) → Stage F A → Type 0
IsOpenedAt remaining bytes Waiting = ⊥
IsOpenedAt remaining bytes (Open reader) = reader_remaining remaining reader ≡ bytes
IsOpenedAt remaining bytes Failed = Unit {0}
IsOpenedAt remaining bytes NoMemory = Unit {0}
IsOpenedAt remaining bytes (Finished last) = ⊥
