-- How words are read: by the name of the program, or by `--as` in front of them.
use Rattle.std.specs.Prelude.{◌||◌, Bool, List, [], ◌∷◌, codes, None, Some, if◌then◌else◌}
use Rattle.std.specs.declared.option.Option.{Option}
use Rattle.std.specs.Option.{option_map_or, unwrap_or}
use Rattle.std.specs.Str.{bytes_eq}
use Rattle.clap.specs.Words.{Text}
use Rattle.doslink_words.specs.Keywords.{is_keyword}
use Rattle.doslink_files.specs.Paths.{last_part}
use Rattle.doslink_asked.specs.declared.languages.Language.{Language}
use Rattle.doslink_asked.specs.declared.languages.Language.TheVariants as language

-- whether a name is that of a program, with `.exe` or without
abbrev pub is_called : (name program with_exe : Text) → Bool
is_called name program with_exe = is_keyword name program || is_keyword name with_exe

-- how the words of another linker of this name are read
abbrev pub language_named : Text → Option Language
language_named name =
    if is_called name (codes "wlink") (codes "wlink.exe") || is_called name (codes "jwlink") (codes "jwlink.exe")
    then Some language.Directives
    else (if is_called name (codes "link") (codes "link.exe") then Some language.Link
    else (if is_called name (codes "tlink") (codes "tlink.exe") then Some language.Tlink
    else None))

-- how the words of a program of this name are read: by its last part
abbrev pub language_of : Text → Language
language_of program = unwrap_or (language_named (last_part program)) language.Words

-- the name behind `--as` at the front of words, and the words behind it
abbrev pub as_asked : List Text → Option (Text × List Text)
as_asked (option ∷ name ∷ words) = if bytes_eq option (codes "--as") then Some (name, words) else None
as_asked _ = None

-- how words are read, and which: `--as NAME` in front of them says it
abbrev pub spoken : Language → List Text → Language × List Text
spoken language words =
    option_map_or (λ asked. (unwrap_or (language_named asked.0) language, asked.1)) (as_asked words) (language, words)
