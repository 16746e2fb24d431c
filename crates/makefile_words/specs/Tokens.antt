-- How a line is cut into tokens, each with its place. The manuals: fields are parted by commas, names in a field by
-- blanks or `+`, and `;` ends the line. In a text of many lines (a response file) a line's end is a token too.
use Rattle.std.specs.Prelude.{ℕ, zero, suc, ◌+◌, ◌-◌, ◌==◌, ◌&&◌, ◌||◌, not, Bool, true, false, nat_le, nat_lt, List}
use Rattle.std.specs.Prelude.{[], ◌∷◌, length, take, drop, map, Option, Some, None, if◌then◌else◌, slice_index}
use Rattle.std.specs.Option.{option_map_or}
use Rattle.std.specs.List.{before_first, after_first, position_or_len}
use Rattle.std.specs.Char.{is_ascii_whitespace}
use Rattle.clap.specs.Words.{Text}
use Rattle.makefile_words.specs.Cut.{has_folders}
use Rattle.makefile_words.specs.declared.tokens.Language.{Language}
use Rattle.makefile_words.specs.declared.tokens.Placed.{Placed}
use Rattle.makefile_words.specs.declared.tokens.Token.{Token}
use Rattle.makefile_words.specs.declared.tokens.Token.TheVariants as code

-- a token: a word, in which folders may have quotes, what stands between two quotes, a quote that isn't closed, or a
-- mark
pub data Piece : Type 0 where
  Word : Text → Piece
  Quoted : Text → Piece
  Unclosed : Piece
  Blank : Piece
  Plus : Piece
  Comma : Piece
  Semicolon : Piece
  LineEnd : Piece

-- a token and its place: how many bytes of the text stand before it
pub record PlacedPiece : Type 0 where
  pub place : ℕ
  pub piece : Piece

-- whether a byte stands behind a word: white space, `"`, `+`, a comma, and `;` where it parts no folders
abbrev pub ends_word : (folders : Bool) → ℕ → Bool
ends_word folders byte =
    is_ascii_whitespace byte || byte == 34 || byte == 43 || byte == 44 || (byte == 59 && not folders)

-- the marks: a line feed ends a line, other white space is a blank
abbrev pub mark_of : ℕ → Option Piece
mark_of byte =
    if byte == 10 then Some LineEnd
    else (if is_ascii_whitespace byte then Some Blank
    else (if byte == 43 then Some Plus
    else (if byte == 44 then Some Comma
    else (if byte == 59 then Some Semicolon
    else None))))

-- whether a byte is a quote
abbrev pub is_quote : ℕ → Bool
is_quote byte = byte == 34

-- what stands up to the next quote, and what follows that
abbrev pub quoted : Text → Piece × Text
quoted text =
    if nat_lt (position_or_len is_quote text) (length text)
    then (Quoted (before_first is_quote text), after_first is_quote text) else (Unclosed, [])

-- the place of the first byte from here on that stands behind a word, or the end
abbrev pub end_from : (folders : Bool) → Text → (start : ℕ) → ℕ
end_from folders text start = start + position_or_len (ends_word folders) (drop start text)

-- whether a text ends with these: `;`; and `L` or `j`, the letters of the options that take folders
abbrev pub ends_with_semicolon : Text → Bool
ends_with_semicolon text = nat_le 1 (length text) && slice_index text (length text - 1) == 59

abbrev pub ends_with_letter : Text → Bool
ends_with_letter text =
    nat_le 2 (length text) && (slice_index text (length text - 1) == 76 || slice_index text (length text - 1) == 106)

-- whether a folder begins behind this part of a word: behind `;`, and behind such a letter that an option is, where `/`
-- begins one anywhere and `-` at the word's start
abbrev pub opens_folder : (part : Text) → Bool
opens_folder part =
    ends_with_semicolon part
    || (ends_with_letter part
    && (slice_index part (length part - 2) == 47 || (length part == 2 && slice_index part 0 == 45)))

-- how many bytes two quotes have with what stands between them, where a text begins with such
abbrev pub quotation_len : Text → Option ℕ
quotation_len [] = None
quotation_len (byte ∷ text) =
    if is_quote byte && nat_lt (position_or_len is_quote text) (length text)
    then Some (position_or_len is_quote text + 2) else None

-- how many bytes a folder has with its two quotes that begins here
abbrev pub quoted_at : Text → (place : ℕ) → Option ℕ
quoted_at text place = if opens_folder (take place text) then quotation_len (drop place text) else None

-- where folders end that end here but for a folder between quotes: what stands between these is in them, any mark too
abbrev pub end_behind : (bound : ℕ) → Text → (end : ℕ) → ℕ
end_behind zero text end = end
end_behind (suc bound) text end =
    option_map_or (λ len. end_behind bound text (end_from true text (end + len))) (quoted_at text end) end

-- where a word ends that has folders, of which this front is known: `;` is in it. Two quotes are two bytes at least, so
-- that the bound is none
unfoldable pub folders_end : Text → (front : ℕ) → ℕ
folders_end text front = end_behind (length text) text (end_from true text front)

-- how long the word is that a text begins with: a byte, and what follows it up to the next byte that ends a word, or up
-- to the end of the folders of an option
unfoldable pub word_len : Language → Text → ℕ
word_len language text =
    if has_folders language (take (end_from false text 1) text) then folders_end text (end_from false text 1)
    else end_from false text 1

-- the word that a text begins with, and what follows it
abbrev pub word : Language → Text → Piece × Text
word language text = (Word (take (word_len language text) text), drop (word_len language text) text)

-- the token that a text begins with, and what follows it
abbrev pub token : Language → (byte : ℕ) → Text → Piece × Text
token language byte text =
    if is_quote byte then quoted text
    else option_map_or (λ mark. (mark, text)) (mark_of byte) (word language (byte ∷ text))

-- the tokens of a text that ends a line of `total` bytes, of which there are fewer than `bound`
abbrev pub tokens_below : (bound : ℕ) → Language → (total : ℕ) → Text → List PlacedPiece
tokens_below zero language total text = []
tokens_below (suc bound) language total [] = []
tokens_below (suc bound) language total (byte ∷ text) =
    record { place = total - length (byte ∷ text); piece = (token language byte text).0 }
    ∷ tokens_below bound language total (token language byte text).1

-- the tokens of a text that ends a line of `total` bytes: each has a byte at least, so that the bound is none
unfoldable pub tokens_ending : Language → (total : ℕ) → Text → List PlacedPiece
tokens_ending language total text = tokens_below (length text + 1) language total text

-- the tokens of a text that is a line by itself
abbrev pub tokens : Language → Text → List PlacedPiece
tokens language text = tokens_ending language (length text) text

-- the text of a token
abbrev pub text_of : Piece → Text
text_of (Word text) = text
text_of (Quoted text) = text
text_of Unclosed = 34 ∷ []
text_of Blank = 32 ∷ []
text_of Plus = 43 ∷ []
text_of Comma = 44 ∷ []
text_of Semicolon = 59 ∷ []
text_of LineEnd = 10 ∷ []

-- what a token of the code says
abbrev pub piece_of : Token → Piece
piece_of (code.Word text) = Word text.now
piece_of (code.Quoted text) = Quoted text.now
piece_of code.Unclosed = Unclosed
piece_of code.Blank = Blank
piece_of code.Plus = Plus
piece_of code.Comma = Comma
piece_of code.Semicolon = Semicolon
piece_of code.LineEnd = LineEnd

-- a token and its place
abbrev pub placed_of : Placed → PlacedPiece
placed_of placed = record { place = placed.place; piece = piece_of placed.token }

abbrev pub pieces : List Placed → List PlacedPiece
pieces = map placed_of
