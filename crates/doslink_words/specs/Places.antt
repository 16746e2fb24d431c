-- The tokens of lines of directives, each with its place. A line's end is a blank.
use Rattle.std.specs.Prelude.{ℕ, zero, suc, ◌+◌, ◌==◌, ◌||◌, Bool, List, [], ◌∷◌, ◌++◌, length, Option, Some, None}
use Rattle.std.specs.Prelude.{Result, Ok, Err, if◌then◌else◌, slice_index}
use Rattle.std.specs.Option.{option_and_then, option_map, option_map_or}
use Rattle.clap.specs.Words.{Text}
use Rattle.doslink_words.specs.declared.faults.DirectiveFaultKind.{DirectiveFaultKind}
use Rattle.doslink_words.specs.declared.faults.DirectiveFaultKind.TheVariants as kind
use Rattle.doslink_words.specs.declared.tokens.Syntax.TheVariants.{Directives}
use Rattle.doslink_words.specs.Tokens.{Piece, after_space, token}

-- a token, and the number of its line
pub record PlacedPiece : Type 0 where
  pub piece : Piece
  pub line : ℕ

-- whether a text says nothing that begins with no white space: it is empty, or a comment
abbrev pub says_nothing : Text → Bool
says_nothing front = length front == 0 || slice_index front 0 == 35

-- the tokens of a line or of what is left of it, of which there are fewer than `bound`
abbrev pub placed_below : (bound line : ℕ) → Text → Option (List PlacedPiece)
placed_below zero line text = None
placed_below (suc bound) line text =
    if says_nothing (after_space text) then Some []
    else option_and_then (λ p.
    option_map (λ more. record { piece = p.0; line = line } ∷ more)
    (placed_below bound line p.1))
    (token Directives (after_space text))

-- the tokens of a line, none where a quote isn't closed
unfoldable pub placed : (line : ℕ) → Text → Option (List PlacedPiece)
placed line text = placed_below (length text + 1) line text

-- a place that is at fault: the number of a line, the line or the word of it that is at fault, and what is wrong
pub record FaultyLine : Type 0 where
  pub line : ℕ
  pub text : Text
  pub kind : DirectiveFaultKind

-- these tokens and those of lines, where `line` lines came before; at fault is the first line in which a quote isn't
-- closed
abbrev pub with_lines : (line : ℕ) → List Text → (had : List PlacedPiece) → Result (List PlacedPiece) FaultyLine
with_lines line [] had = Ok had
with_lines line (text ∷ more) had =
    option_map_or (λ tokens. with_lines (line + 1) more (had ++ tokens)) (placed (line + 1) text)
    (Err (record { line = line + 1; text = text; kind = kind.UnclosedQuote }))
