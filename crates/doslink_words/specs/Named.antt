-- What the words name to be linked, in their order.
use Rattle.std.specs.Prelude.{ℕ, ◌==◌, ◌||◌, Bool, List, [], ◌∷◌, ◌++◌, map, Option, Some, None, codes, if◌then◌else◌}
use Rattle.std.specs.Option.{option_map_or}
use Rattle.std.specs.Str.{bytes_eq}
use Rattle.clap.specs.Lexer.{strip_byte}
use Rattle.clap.specs.Words.{Text}
use Rattle.doslink_words.specs.declared.named.Expected.{Expected}
use Rattle.doslink_words.specs.declared.named.Expected.TheVariants as expected
use Rattle.doslink_words.specs.declared.named.Kind.{Kind}
use Rattle.doslink_words.specs.declared.named.Kind.TheVariants as kind
use Rattle.doslink_words.specs.declared.named.Met.{Met}
use Rattle.doslink_words.specs.Said.{SaidInput, File, Library}
use Rattle.doslink_words.specs.Tokens.{if_empty}

-- a word that names nothing to link, and behind which any word may stand
abbrev pub nothing_named : Met
nothing_named = record { named = None; next = expected.Any }

-- the value of an option stands behind a letter in its word, or else it is the next word
abbrev pub behind : Text → Expected
behind [] = expected.Value
behind (byte ∷ more) = expected.Any

-- a letter whose option takes a value: `-o`, `-m`, `-L`, `-l`
abbrev pub takes_value : (letter : ℕ) → Bool
takes_value letter = letter == 111 || letter == 109 || letter == 76 || letter == 108

-- what an option names: `-l` a library
abbrev pub kind_named : (letter : ℕ) → Option Kind
kind_named letter = if letter == 108 then Some kind.Library else None

-- the letters of `-abc`: the first that takes a value has what follows it
abbrev pub letters_met : Text → Met
letters_met [] = nothing_named
letters_met (letter ∷ more) =
    if takes_value letter then record { named = kind_named letter; next = behind more } else letters_met more

-- a word that is a file
abbrev pub a_file : Met
a_file = record { named = Some kind.File; next = expected.Any }

-- a long name whose option takes a value
abbrev pub long_takes_value : (name : Text) → Bool
long_takes_value name =
    bytes_eq name (codes "order") || (bytes_eq name (codes "stack") || (bytes_eq name (codes "form")
    || (bytes_eq name (codes "at") || bytes_eq name (codes "map-form"))))

-- `--name`: `--` alone has files behind it, and an option that takes a value has that
abbrev pub long_met : (name : Text) → Met
long_met name =
    if_empty name (record { named = None; next = expected.File })
    (if long_takes_value name then record { named = None; next = expected.Value } else nothing_named)

-- what stands behind a `-`: a long name behind another one, or letters; `-` alone is a file
abbrev pub option_met : Text → Met
option_met rest = option_map_or long_met (strip_byte 45 rest) (if_empty rest a_file (letters_met rest))

-- a word where no value is awaited
abbrev pub option_or_file : Text → Met
option_or_file word = option_map_or option_met (strip_byte 45 word) a_file

-- what a word names, and what the next one is
abbrev pub word_met : Expected → Text → Met
word_met expected.Any word = option_or_file word
word_met expected.Value word = nothing_named
word_met expected.File word = record { named = Some kind.File; next = expected.File }

abbrev pub with_kind : Option Kind → List Kind → List Kind
with_kind None kinds = kinds
with_kind (Some kind) kinds = kind ∷ kinds

-- what words name, a file or a library each, in their order
abbrev pub kinds_named : Expected → List Text → List Kind
kinds_named awaited [] = []
kinds_named awaited (word ∷ more) =
    with_kind (word_met awaited word).named (kinds_named (word_met awaited word).next more)

-- these files and libraries in the order of their kinds: all of them, each once
abbrev pub in_order : List Kind → (files libraries : List Text) → List SaidInput
in_order [] files libraries = map File files ++ map Library libraries
in_order (kind.File ∷ kinds) [] libraries = in_order kinds [] libraries
in_order (kind.File ∷ kinds) (file ∷ files) libraries = File file ∷ in_order kinds files libraries
in_order (kind.Library ∷ kinds) files [] = in_order kinds files []
in_order (kind.Library ∷ kinds) files (library ∷ libraries) = Library library ∷ in_order kinds files libraries
