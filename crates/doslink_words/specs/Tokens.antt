-- How a text is split into tokens: at white space, with what stands between quotes kept whole.
use Rattle.std.specs.Prelude.{ℕ, zero, suc, ◌+◌, ◌==◌, ◌||◌, Bool, nat_lt, List, [], ◌∷◌, length, take, drop, map}
use Rattle.std.specs.Prelude.{Option, Some, None, if◌then◌else◌}
use Rattle.std.specs.Option.{option_map, option_map_or, option_and_then}
use Rattle.std.specs.List.{before_first, after_first, position_or_len, prefix_len}
use Rattle.std.specs.Char.{is_ascii_whitespace}
use Rattle.clap.specs.Words.{Text}
pub use Rattle.command_line.specs.Values.{texts}
use Rattle.doslink_words.specs.declared.tokens.Syntax.{Syntax}
use Rattle.doslink_words.specs.declared.tokens.Syntax.TheVariants.{Words, Directives}

-- a token: a word, what stands between two quotes, a comma, an equals sign, or a brace
pub data Piece : Type 0 where
  Word : Text → Piece
  Quoted : Text → Piece
  Comma : Piece
  Equals : Piece
  Open : Piece
  Close : Piece

-- the marks of directives: a comma, an equals sign and braces
abbrev pub is_mark : ℕ → Bool
is_mark byte = byte == 44 || byte == 61 || byte == 123 || byte == 125

-- whether a byte stands behind a word: white space, and in directives a mark
abbrev pub ends_word : Syntax → ℕ → Bool
ends_word Words byte = is_ascii_whitespace byte
ends_word Directives byte = is_ascii_whitespace byte || is_mark byte

-- the quotes: `"`, and in directives `'` too
abbrev pub is_quote : Syntax → ℕ → Bool
is_quote Words byte = byte == 34
is_quote Directives byte = byte == 34 || byte == 39

-- the mark that a byte is, in directives
abbrev pub mark_of : Syntax → ℕ → Option Piece
mark_of Words byte = None
mark_of Directives byte =
    if byte == 44 then Some Comma
    else (if byte == 61 then Some Equals
    else (if byte == 123 then Some Open
    else (if byte == 125 then Some Close
    else None)))

-- a text without the white space at its start
abbrev pub after_space : Text → Text
after_space text = drop (prefix_len is_ascii_whitespace text) text

-- whether a byte is this quote
abbrev pub is_end : (quote byte : ℕ) → Bool
is_end quote byte = byte == quote

-- what stands before the next such quote, and what follows that; none where the quote isn't closed
abbrev pub quoted : (quote : ℕ) → Text → Option (Piece × Text)
quoted quote text =
    if nat_lt (position_or_len (is_end quote) text) (length text)
    then Some (Quoted (before_first (is_end quote) text), after_first (is_end quote) text) else None

-- how long the word is that a text begins with: a byte, and what follows it up to the next byte that ends a word
abbrev pub word_len : Syntax → Text → ℕ
word_len syntax text = 1 + position_or_len (ends_word syntax) (drop 1 text)

-- the word that a text begins with, and what follows it
abbrev pub word : Syntax → Text → Piece × Text
word syntax text = (Word (take (word_len syntax text) text), drop (word_len syntax text) text)

-- the token that a text without white space at its start begins with, and what follows it
abbrev pub token : Syntax → Text → Option (Piece × Text)
token syntax [] = None
token syntax (byte ∷ text) =
    if is_quote syntax byte then quoted byte text
    else Some (option_map_or (λ mark. (mark, text)) (mark_of syntax byte) (word syntax (byte ∷ text)))

-- one value for an empty text, and another one for the others
abbrev pub if_empty : {A : Type 0} → Text → A → A → A
if_empty [] empty other = empty
if_empty (byte ∷ text) empty other = other

-- the tokens of a text, of which there are fewer than `bound`
abbrev pub tokens_below : (bound : ℕ) → Syntax → Text → Option (List Piece)
tokens_below zero syntax text = None
tokens_below (suc bound) syntax text =
    if_empty (after_space text) (Some [])
    (option_and_then (λ p. option_map (λ more. p.0 ∷ more) (tokens_below bound syntax p.1))
    (token syntax (after_space text)))

-- the tokens of a text, none where a quote isn't closed: each has a byte at least, so that the bound is none
unfoldable pub tokens : Syntax → Text → Option (List Piece)
tokens syntax text = tokens_below (length text + 1) syntax text

-- the text of a token
abbrev pub text_of : Piece → Text
text_of (Word text) = text
text_of (Quoted text) = text
text_of Comma = 44 ∷ []
text_of Equals = 61 ∷ []
text_of Open = 123 ∷ []
text_of Close = 125 ∷ []

-- the words of a text
unfoldable pub words : Text → Option (List Text)
words text = option_map (map text_of) (tokens Words text)
