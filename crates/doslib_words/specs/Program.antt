-- The words of `program`: the file, and the image of it that is written.
use Rattle.std.specs.Prelude.{◌≡◌, ◌⊎◌, ℕ, true, List, length, Some, None, IsSomeAnd, codes, Ok}
use Rattle.std.specs.declared.option.Option.{Option}
use Rattle.std.specs.Int.{to_be_bytes, w16}
use Rattle.std.specs.List.{AllPass}
use Rattle.hex.specs.Hex.{decode_of, is_hex_digit}
use Rattle.clap.specs.Words.{App, Row, Rule, Text, first_of, new_app, new_rule, with_rule}
use Rattle.doslib_words.specs.declared.program.Image.{Image}

-- the program's file, a value that has to be there
abbrev pub file_rule : Rule
file_rule = record (new_rule (codes "FILE")) { required = true }

-- the image that is written: `--image OUT`
abbrev pub image_rule : Rule
image_rule = record (new_rule (codes "OUT")) { long = Some (codes "image") }

-- the paragraph that it is loaded at: `--at PARAGRAPH`
abbrev pub at_rule : Rule
at_rule = record (new_rule (codes "PARAGRAPH")) { long = Some (codes "at") }

-- `program FILE [--image OUT [--at PARAGRAPH]]`
abbrev pub program_command : App
program_command = with_rule (with_rule (with_rule (new_app (codes "program")) file_rule) image_rule) at_rule

-- exactly four hexadecimal digits, capital or small
abbrev pub IsFourDigits : Text → Type 0
IsFourDigits digits = (length digits ≡ 4) × AllPass is_hex_digit digits

-- four hexadecimal digits name this paragraph
abbrev pub IsParagraph : Text → (paragraph : ℕ) → Type 0
IsParagraph digits paragraph = IsFourDigits digits × (decode_of digits ≡ Ok (to_be_bytes w16 paragraph))

-- a text names none
abbrev pub IsNoParagraph : Text → Type 0
IsNoParagraph digits = IsFourDigits digits → ⊥

-- the paragraph of an image, 0 where none is given
abbrev pub IsPlace : Option Text → (paragraph : ℕ) → Type 0
IsPlace None paragraph = paragraph ≡ 0
IsPlace (Some digits) paragraph = IsParagraph digits paragraph

-- these values ask for this image, or for none
abbrev pub IsImageOf : List Row → Option Image → Type 0
IsImageOf rows None = (first_of (codes "OUT") rows ≡ None) × (first_of (codes "PARAGRAPH") rows ≡ None)
IsImageOf rows (Some image) = (first_of (codes "OUT") rows ≡ Some image.out.now)
    × IsPlace (first_of (codes "PARAGRAPH") rows) image.paragraph

-- they have a paragraph that isn't exactly four hexadecimal digits, or one without an image
abbrev pub HasWrongPlace : List Row → Type 0
HasWrongPlace rows = IsSomeAnd (first_of (codes "PARAGRAPH") rows)
    (λ digits. IsNoParagraph digits ⊎ (first_of (codes "OUT") rows ≡ None))
