-- What tokens of the code say.
use Rattle.std.specs.Prelude.{List, map, Option}
use Rattle.std.specs.Option.{option_map}
use Rattle.std.specs.Borrow.{Bor}
use Rattle.clap.specs.Words.{Text}
use Rattle.doslink_words.specs.declared.tokens.Token.{Token}
use Rattle.doslink_words.specs.declared.tokens.Token.TheVariants as code
use Rattle.doslink_words.specs.declared.tokens.Placed.{Placed}
use Rattle.doslink_words.specs.Places.{PlacedPiece}
use Rattle.doslink_words.specs.Tokens.{Piece, Word, Quoted, Comma, Equals, Open, Close}

-- what a token of the code says
abbrev pub piece_of : Token → Piece
piece_of (code.Word text) = Word text.now
piece_of (code.Quoted text) = Quoted text.now
piece_of code.Comma = Comma
piece_of code.Equals = Equals
piece_of code.Open = Open
piece_of code.Close = Close

-- what tokens of the code say
abbrev pub pieces : List Token → List Piece
pieces = map piece_of

-- what a token of the code says, and the text that follows it
abbrev pub said : Option (Token × Bor Text) → Option (Piece × Text)
said = option_map (λ p. (piece_of p.0, p.1.now))

-- what a mark of the code says
abbrev pub said_mark : Option Token → Option Piece
said_mark = option_map piece_of

-- what a token says that has its place, without the place
abbrev pub operand_of : Placed → Piece
operand_of token = piece_of token.token

abbrev pub operands : List Placed → List Piece
operands = map operand_of

-- the same with it
abbrev pub placed_of : Placed → PlacedPiece
placed_of token = record { piece = piece_of token.token; line = token.line }

abbrev pub all_placed : List Placed → List PlacedPiece
all_placed = map placed_of
