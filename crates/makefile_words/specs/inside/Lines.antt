-- What the line of the code says.
use Rattle.std.specs.Prelude.{◌≡◌, ⊤, Result, Ok, Err}
use Rattle.std.specs.Option.{option_map}
use Rattle.doslink_words.specs.Said.{inputs_of}
use Rattle.doslink_words.specs.Tokens.{texts}
use Rattle.makefile_words.specs.Lines.{SaidLine, WrongWord}
use Rattle.makefile_words.specs.Tokens.{PlacedPiece, text_of}
use Rattle.makefile_words.specs.declared.faults.LineFault.{LineFault}
use Rattle.makefile_words.specs.declared.faults.LineFault.TheVariants as line_fault
use Rattle.makefile_words.specs.declared.faults.WordFault.{WordFault}
use Rattle.makefile_words.specs.declared.faults.WordFault.TheVariants.{Memory, Wrong}
use Rattle.makefile_words.specs.declared.line.Line.{Line}

abbrev pub line_of : Line → SaidLine
line_of line = record {
  inputs = inputs_of line.inputs.items;
  out = option_map (λ name. name.now) line.out;
  map = option_map (λ name. name.now) line.map;
  definitions = option_map (λ name. name.now) line.definitions;
  folders = texts line.folders.items;
  object_folders = texts line.object_folders.items;
  left_out = texts line.left_out.items;
  warnings = line.warnings.items;
  settings = line.settings;
  field = line.field;
  continued = line.continued;
}

-- an answer is what is said, or want of memory
abbrev pub Says : Result Line LineFault → Result SaidLine WrongWord → Type 0
Says (Ok line) meant = meant ≡ Ok (line_of line)
Says (Err line_fault.Memory) meant = ⊤
Says (Err (line_fault.Word place word kind)) meant =
    meant ≡ Err (record { place = place; word = word.now; kind = kind })

-- the fault of a line whose token is at fault with this
abbrev pub IsFaultAt : PlacedPiece → WordFault → LineFault → Type 0
IsFaultAt token Memory fault = fault ≡ line_fault.Memory
IsFaultAt token (Wrong kind) fault =
    Says (Err fault) (Err (record { place = token.place; word = text_of token.piece; kind = kind }))
