-- What a part of a directive adds to what is there.
use Rattle.std.specs.Prelude.{◌≡◌, ℕ, List, [], ◌∷◌, ◌++◌, Result, Ok, Err}
use Rattle.std.specs.Option.{option_map_or, option_or}
use Rattle.clap.specs.Words.{Text}
use Rattle.doslink_words.specs.Directives.{Line, alias_of, and_then, one_name, option_meaning, option_of, order_item}
use Rattle.doslink_words.specs.Directives.{first_of, own, tokens_meaning}
use Rattle.doslink_words.specs.declared.faults.DirectiveFaultKind.TheVariants.{UnclosedQuote}
use Rattle.doslink_words.specs.declared.faults.LineFault.{LineFault}
use Rattle.doslink_words.specs.declared.faults.LineFault.TheVariants.{Memory, Wrong}
use Rattle.doslink_words.specs.inside.Follows.{mistake_of}
use Rattle.doslink_words.specs.Places.{FaultyLine, PlacedPiece, placed, with_lines}
use Rattle.doslink_words.specs.Said.{Said, SaidItem}

-- these names and the one that is alone
abbrev pub named : (had : List Text) → List PlacedPiece → Line (List Text)
named had part = and_then (one_name part) (λ name. Ok (had ++ (name ∷ [])))

-- these items and the one that a keyword and a name are
abbrev pub listed : (had : List SaidItem) → (keyword name : PlacedPiece) → Line (List SaidItem)
listed had keyword name = and_then (order_item keyword name) (λ item. Ok (had ++ (item ∷ [])))

-- these aliases and the one that a part is
abbrev pub aliased : (had : List (Text × Text)) → List PlacedPiece → Line (List (Text × Text))
aliased had part = and_then (alias_of part) (λ alias. Ok (had ++ (alias ∷ [])))

-- what an option means, but for the word that is wrong where no operand is
abbrev pub optioned : (line : ℕ) → Said → List PlacedPiece → Line Said
optioned line said part = and_then (option_of part) (λ o. option_meaning line o.0 o.1 said)

-- what is wrong with an option is so with its first word, where no other is
abbrev pub IsOfPart : (part : List PlacedPiece) → (fault result : LineFault) → Type 0
IsOfPart part Memory result = result ≡ Memory
IsOfPart part (Wrong what) Memory = ⊥
IsOfPart part (Wrong what) (Wrong told) =
    mistake_of told ≡ record (mistake_of what) { word = option_or (mistake_of what).word (first_of part) }

-- these tokens and those of a line
abbrev pub line_tokens : (had : List PlacedPiece) → (line : ℕ) → Text → Line (List PlacedPiece)
line_tokens had line text = option_map_or (λ tokens. Ok (had ++ tokens)) (placed line text)
    (Err (own UnclosedQuote))

-- what lines mean behind what is said
abbrev pub lines_meaning : List Text → Said → Result Said FaultyLine
lines_meaning lines said = and_then (with_lines 0 lines []) (λ tokens. tokens_meaning 0 tokens said)
