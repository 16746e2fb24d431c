-- What tokens of the code say.
use Rattle.std.specs.Prelude.{Option}
use Rattle.std.specs.Option.{option_map}
use Rattle.std.specs.Borrow.{Bor}
use Rattle.clap.specs.Words.{Text}
use Rattle.makefile_words.specs.declared.tokens.Token.{Token}
use Rattle.makefile_words.specs.Tokens.{Piece}
pub use Rattle.makefile_words.specs.Tokens.{piece_of, placed_of, pieces}

-- what a token of the code says, and the text that follows it
abbrev pub said : Token × Bor Text → Piece × Text
said p = (piece_of p.0, p.1.now)

-- what a mark of the code says
abbrev pub said_mark : Option Token → Option Piece
said_mark = option_map piece_of
