-- What the command line says on the way to a job or a refusal.
use Rattle.std.specs.Prelude.{◌≡◌, ◌&&◌, ◌||◌, ⊤, true, not, List, [], ◌∷◌, codes, is_some}
use Rattle.std.specs.List.{list_all, list_any}
use Rattle.std.specs.Str.{bytes_eq}
use Rattle.clap.specs.Words.{Row, Text, first_of}
use Rattle.command_line.specs.Rules.{files_rule}
use Rattle.command_line.specs.declared.words_fault.WordsFault.{WordsFault}
use Rattle.command_line.specs.declared.words_fault.WordsFault.TheVariants.{Help, Wrong, Memory}
use Rattle.doslib_words.specs.Comparing.{compare_command}
use Rattle.doslib_words.specs.Libraries.{library_command, members_rule, names_command}
use Rattle.doslib_words.specs.Matching.{match_command}
use Rattle.doslib_words.specs.Program.{HasWrongPlace, program_command}
use Rattle.doslib_words.specs.Words.{files_command}

-- one of the subcommands has this name, and each argument that it asks for has a value in the rows
unfoldable pub IsEntered : Text → List Row → Type 0
IsEntered name rows =
    list_any (λ s. bytes_eq s.name name && list_all (λ a. not a.required || is_some (first_of a.id rows)) s.rules)
    ((files_command (codes "list")).top ∷ (files_command (codes "show")).top ∷ program_command.top ∷ match_command.top
    ∷ compare_command.top ∷ names_command.top ∷ (library_command (codes "make") files_rule).top
    ∷ (library_command (codes "add") files_rule).top ∷ (library_command (codes "delete") members_rule).top
    ∷ (library_command (codes "replace") files_rule).top ∷ (library_command (codes "extract") members_rule).top ∷ [])
    ≡ true

-- what a refusal of these values says, where the command has taken the words
abbrev pub IsRefusalOf : Text → List Row → WordsFault → Type 0
IsRefusalOf name rows Memory = ⊤
IsRefusalOf name rows (Wrong text) = (name ≡ codes "program") × HasWrongPlace rows
IsRefusalOf name rows (Help text) = ⊥

-- the words are wrong
abbrev pub IsWrong : WordsFault → Type 0
IsWrong (Wrong text) = ⊤
IsWrong _ = ⊥
