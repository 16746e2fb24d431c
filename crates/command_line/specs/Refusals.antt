-- Why words are refused.
use Rattle.std.specs.Prelude.{◌≡◌, ◌≢◌, ◌⊎◌, ⊤}
use Rattle.clap.specs.declared.error.ErrorKind.{ErrorKind}
use Rattle.clap.specs.declared.error.ErrorKind.TheVariants.{DisplayHelp, DisplayVersion}
use Rattle.command_line.specs.declared.words_fault.WordsFault.{WordsFault}
use Rattle.command_line.specs.declared.words_fault.WordsFault.TheVariants.{Help, Wrong, Memory}

-- What the parser found is told as help exactly where help or the version was asked for, and else as what is wrong.
-- Memory may run out for either text.
abbrev pub IsRefusalOfKind : ErrorKind → WordsFault → Type 0
IsRefusalOfKind kind (Help text) = (kind ≡ DisplayHelp) ⊎ (kind ≡ DisplayVersion)
IsRefusalOfKind kind (Wrong text) = (kind ≢ DisplayHelp) × (kind ≢ DisplayVersion)
IsRefusalOfKind kind Memory = ⊤
