-- What the command line says on the way to a job or a refusal.
use Rattle.std.specs.Prelude.{◌≡◌, ◌&&◌, ◌||◌, ◌⊎◌, ⊤, true, not, List, [], ◌∷◌}
use Rattle.std.specs.Prelude.{codes, is_some}
use Rattle.std.specs.List.{list_all, list_any}
use Rattle.std.specs.Str.{bytes_eq}
use Rattle.clap.specs.Words.{Row, Text, first_of}
use Rattle.command_line.specs.declared.words_fault.WordsFault.{WordsFault}
use Rattle.command_line.specs.declared.words_fault.WordsFault.TheVariants.{Help, Wrong, Memory}
use Rattle.omf_words.specs.Words.{HasTooManyFiles, HasWrongParagraph, file_command, link_command, load_command}
use Rattle.omf_words.specs.Words.{rewrite_command}

-- one of the subcommands has this name, and each argument that it asks for has a value in the rows
unfoldable pub IsEntered : Text → List Row → Type 0
IsEntered name rows =
    list_any (λ s. bytes_eq s.name name && list_all (λ a. not a.required || is_some (first_of a.id rows)) s.rules)
    ((file_command (codes "show")).top ∷ (file_command (codes "check")).top ∷ rewrite_command.top ∷ link_command.top
    ∷ load_command.top ∷ []) ≡ true

-- what a refusal of these values says, where the command has taken the words
abbrev pub IsRefusalOf : Text → List Row → WordsFault → Type 0
IsRefusalOf name rows Memory = ⊤
IsRefusalOf name rows (Wrong text) = HasTooManyFiles name rows ⊎ HasWrongParagraph name rows
IsRefusalOf name rows (Help text) = ⊥

-- the words are wrong
abbrev pub IsWrong : WordsFault → Type 0
IsWrong (Wrong text) = ⊤
IsWrong _ = ⊥
