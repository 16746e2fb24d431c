-- A file of definitions, which LINK and TLINK take: statements, each in a line of its own. NAME, DESCRIPTION and
-- STACKSIZE say nothing that is followed here, and of each a warning is told; others would change the program.
use Rattle.std.specs.Prelude.{◌≡◌, ⊤, ℕ, zero, suc, ◌+◌, ◌-◌, ◌==◌, ◌&&◌, ◌||◌, Bool, true, false, List, [], ◌∷◌, ◌++◌}
use Rattle.std.specs.Prelude.{length, take, drop, codes, Option, Some, None, Result, Ok, Err, Vec, is_some}
use Rattle.std.specs.Prelude.{if◌then◌else◌}
use Rattle.std.specs.Char.{is_ascii_whitespace}
use Rattle.std.specs.List.{before_first, after_first, position_or_len}
use Rattle.std.specs.Option.{option_map_or}
use Rattle.clap.specs.Lexer.{strip_byte}
use Rattle.clap.specs.Words.{Text}
use Rattle.doslink_words.specs.Directives.{and_then}
use Rattle.doslink_words.specs.Keywords.{is_keyword}
use Rattle.doslink_words.specs.Tokens.{after_space, if_empty}
use Rattle.makefile_words.specs.Cut.{has}
use Rattle.makefile_words.specs.Lines.{WrongWord}
use Rattle.makefile_words.specs.Link.{number}
use Rattle.makefile_words.specs.declared.faults.FaultKind.{FaultKind}
use Rattle.makefile_words.specs.declared.faults.FaultKind.TheVariants as fault
use Rattle.makefile_words.specs.declared.faults.LineFault.{LineFault}
use Rattle.makefile_words.specs.declared.faults.LineFault.TheVariants as line_fault
use Rattle.makefile_words.specs.declared.line.IdleAt.{IdleAt}
use Rattle.makefile_words.specs.declared.settings.Idle.TheVariants as idle

-- ---- words

-- whether a text says nothing: it is empty, or a comment, which `;` begins
abbrev pub is_comment : Text → Bool
is_comment [] = true
is_comment (byte ∷ text) = byte == 59

-- whether nothing stands in a text but white space and a comment
abbrev pub says_nothing : Text → Bool
says_nothing text = is_comment (after_space text)

-- whether a byte stands behind a word: white space, `;`, or a quote
abbrev pub ends_word : ℕ → Bool
ends_word byte = is_ascii_whitespace byte || byte == 59 || byte == 34 || byte == 39

-- how long the word is that a text begins with: a byte, and what follows it up to the next byte that ends a word
abbrev pub word_len : Text → ℕ
word_len text = 1 + position_or_len ends_word (drop 1 text)

-- the word that a text begins with, and what stands behind it
abbrev pub first_word : Text → Text × Text
first_word text = (take (word_len text) text, drop (word_len text) text)

-- ---- statements

-- whether a quote ends a text that stands behind one, with nothing behind that
abbrev pub is_closed : (quote : ℕ) → Text → Bool
is_closed quote text = has quote text && says_nothing (after_first (λ byte. byte == quote) text)

-- whether this is a text between two such quotes
abbrev pub is_between : (quote : ℕ) → Text → Bool
is_between quote text = option_map_or (is_closed quote) (strip_byte quote text) false

-- whether this is a text between two quotes, `"` or `'`
abbrev pub is_quotation : Text → Bool
is_quotation text = is_between 34 text || is_between 39 text

-- whether this is a number
abbrev pub is_number : Text → Bool
is_number text =
    if_empty text false (is_some (number (first_word text).0) && says_nothing (first_word text).1)

-- what is wrong with a statement, by its first word and what stands behind that without white space in front
abbrev pub statement_fault : (word operands : Text) → Option FaultKind
statement_fault word operands =
    if is_keyword word (codes "name") then None
    else (if is_keyword word (codes "description")
    then (if is_quotation (after_space operands) then None else Some fault.NoDescription)
    else (if is_keyword word (codes "stacksize")
    then (if is_number (after_space operands) then None else Some fault.NoStackSize)
    else Some fault.Definitions))

-- what a statement says, of whose word this is the place
abbrev pub told : (place : ℕ) → (word : Text) → Option FaultKind → List IdleAt → Result (List IdleAt) WrongWord
told place word None said = Ok (said ++ (record { place = place; idle = idle.Definition } ∷ []))
told place word (Some kind) said = Err (record { place = place; word = word; kind = kind })

-- what a line says that begins at a place, without white space in front
abbrev pub line_meaning : (place : ℕ) → Text → List IdleAt → Result (List IdleAt) WrongWord
line_meaning place line said =
    if is_comment line then Ok said
    else told place (first_word line).0 (statement_fault (first_word line).0 (first_word line).1) said

-- ---- the file

-- whether a byte ends a line; a carriage return in front of it is white space
abbrev pub is_line_end : ℕ → Bool
is_line_end byte = byte == 10

-- what fewer than `bound` lines say behind what is said, which end a text of `total` bytes
abbrev pub lines_below : (bound : ℕ) → (total : ℕ) → Text → List IdleAt → Result (List IdleAt) WrongWord
lines_below zero total text said = Ok said
lines_below (suc bound) total text said =
    if_empty (after_space text) (Ok said)
    (and_then (line_meaning (total - length (after_space text)) (before_first is_line_end (after_space text)) said)
    (lines_below bound total (after_first is_line_end (after_space text))))

-- what a file of definitions says: each line that says something has a byte, so that the bound is none
unfoldable pub meaning : Text → Result (List IdleAt) WrongWord
meaning text = lines_below (length text + 1) (length text) text []

-- an answer is what a file says, its first word at fault, or want of memory
abbrev pub Means : {A : Type 0} → Result (Vec IdleAt A) LineFault → Result (List IdleAt) WrongWord → Type 0
Means (Ok warnings) meant = meant ≡ Ok warnings.items
Means (Err line_fault.Memory) meant = ⊤
Means (Err (line_fault.Word place word kind)) meant =
    meant ≡ Err (record { place = place; word = word.now; kind = kind })
