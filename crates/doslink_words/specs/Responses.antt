-- The words of a program that takes directives.
use Rattle.std.specs.Prelude.{◌||◌, Bool, false, List, [], ◌∷◌, ◌++◌, Option, Some, None, codes}
use Rattle.std.specs.Option.{option_and_then, option_map, option_map_or}
use Rattle.std.specs.Str.{bytes_eq}
use Rattle.clap.specs.Lexer.{strip_byte}
use Rattle.clap.specs.Words.{Text}
use Rattle.doslink_words.specs.Tokens.{Piece, after_space, if_empty, quoted, text_of}

-- words with a blank in front of each
abbrev pub spaced : List Text → Text
spaced [] = []
spaced (word ∷ more) = 32 ∷ (word ++ spaced more)

-- what is quoted, where nothing follows it
abbrev pub only_quoted : Piece × Text → Option Text
only_quoted p = if_empty p.1 (Some (text_of p.0)) None

-- PATH of a text `@"PATH"`, which has no other quote
abbrev pub quoted_path : Text → Option Text
quoted_path text =
    option_and_then only_quoted
    (option_and_then (quoted 34) (option_and_then (strip_byte 34) (strip_byte 64 text)))

-- the word `@PATH` that stands for all, where these are a path in quotes that was cut at its blanks
abbrev pub response_word : List Text → Option Text
response_word words = option_map (λ path. 64 ∷ path) (quoted_path (after_space (spaced words)))

-- the words, or the one that stands for all
abbrev pub response_words : List Text → List Text
response_words words = option_map_or (λ word. word ∷ []) (response_word words) words

-- whether a word asks for help, and for the version
abbrev pub asks_help : Text → Bool
asks_help word = bytes_eq word (codes "--help") || bytes_eq word (codes "-h") || bytes_eq word (codes "-?")

abbrev pub asks_version : Text → Bool
asks_version word = bytes_eq word (codes "--version") || bytes_eq word (codes "-V")

-- whether the only word asks for either, and is no directive
abbrev pub asks_text : List Text → Bool
asks_text (word ∷ []) = asks_help word || asks_version word
asks_text _ = false
