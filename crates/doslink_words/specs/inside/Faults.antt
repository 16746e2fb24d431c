-- What the fault of a directive says of the whole text.
use Rattle.std.specs.Prelude.{◌≡◌, ℕ, ⊤, Result, Ok, Err}
use Rattle.std.specs.Option.{unwrap_or}
use Rattle.clap.specs.Words.{Text}
use Rattle.doslink_words.specs.declared.faults.DirectiveFault.{DirectiveFault}
use Rattle.doslink_words.specs.declared.faults.DirectiveFault.TheVariants as directive_fault
use Rattle.doslink_words.specs.declared.faults.LineFault.{LineFault}
use Rattle.doslink_words.specs.declared.faults.LineFault.TheVariants.{Memory, Wrong}
use Rattle.doslink_words.specs.Directives.{faulty_word}
use Rattle.doslink_words.specs.Places.{FaultyLine, PlacedPiece}
use Rattle.doslink_words.specs.inside.Follows.{mistake_of}

-- a fault says that this is at fault, or that memory was wanting
abbrev pub Says : DirectiveFault → FaultyLine → Type 0
Says directive_fault.Memory faulty = ⊤
Says (directive_fault.Line line text what) faulty = faulty ≡ record { line = line; text = text.now; kind = what }

-- the fault of a text of which this line is at fault so
abbrev pub IsFaultAt : (line : ℕ) → Text → LineFault → DirectiveFault → Type 0
IsFaultAt line text Memory fault = fault ≡ directive_fault.Memory
IsFaultAt line text (Wrong what) fault = Says fault (record { line = line; text = text; kind = what.kind })

-- the fault of a text of which the directive of this word is at fault so
abbrev pub IsFaultOf : PlacedPiece → LineFault → DirectiveFault → Type 0
IsFaultOf first Memory fault = fault ≡ directive_fault.Memory
IsFaultOf first (Wrong what) fault =
    Says fault (faulty_word (unwrap_or (mistake_of what).word first) what.kind)

-- a fault is what is meant, or memory was wanting
abbrev pub IsFault : {A : Type 0} → DirectiveFault → Result A FaultyLine → Type 0
IsFault directive_fault.Memory meant = ⊤
IsFault (directive_fault.Line line text what) meant =
    meant ≡ Err (record { line = line; text = text.now; kind = what })

-- a change to this is what is meant, or a fault is, or memory was wanting
abbrev pub Ends : {A : Type 0} → Result Unit DirectiveFault → Result A FaultyLine → A → Type 0
Ends (Ok done) meant after = meant ≡ Ok after
Ends (Err fault) meant after = IsFault fault meant
