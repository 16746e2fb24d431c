-- What a file is that is no object module, by its first bytes.
use Rattle.std.specs.Prelude.{ℕ, ◌==◌, ◌&&◌, ◌||◌, Bool, not, nat_le, if◌then◌else◌, List, [], ◌∷◌, ◌++◌, codes, length}
use Rattle.std.specs.Prelude.{take, Some, None}
use Rattle.std.specs.declared.option.Option.{Option}
use Rattle.std.specs.List.{list_all}
use Rattle.std.specs.Str.{bytes_eq}
use Rattle.doslink_telling.specs.declared.kinds.Foreign.{Foreign}
use Rattle.doslink_telling.specs.declared.kinds.Foreign.TheVariants as foreign

-- whether a file begins with these bytes
abbrev pub begins : (front bytes : List ℕ) → Bool
begins front bytes = bytes_eq (take (length front) bytes) front

-- whether a file begins as a module does: with the type of THEADR or LHEADR
abbrev pub begins_module : List ℕ → Bool
begins_module bytes = begins (0x80 ∷ []) bytes || begins (0x82 ∷ []) bytes

-- whether it begins as a COFF file does: with the number of a processor, 386 or AMD64
abbrev pub begins_coff : List ℕ → Bool
begins_coff bytes = begins (0x4C ∷ 0x01 ∷ []) bytes || begins (0x64 ∷ 0x86 ∷ []) bytes

-- whether it begins as a Mach-O file does: FEEDFACE or FEEDFACF, the low byte first or the high one, or CAFEBABE, as
-- one of several processors
abbrev pub begins_macho : List ℕ → Bool
begins_macho bytes =
    begins (0xCE ∷ 0xFA ∷ 0xED ∷ 0xFE ∷ []) bytes || begins (0xCF ∷ 0xFA ∷ 0xED ∷ 0xFE ∷ []) bytes
    || begins (0xFE ∷ 0xED ∷ 0xFA ∷ 0xCE ∷ []) bytes || begins (0xFE ∷ 0xED ∷ 0xFA ∷ 0xCF ∷ []) bytes
    || begins (0xCA ∷ 0xFE ∷ 0xBA ∷ 0xBE ∷ []) bytes

-- whether a byte may stand in a text: tab, the ends of lines and pages, the end of a DOS text, and what is printed
abbrev pub is_text_byte : ℕ → Bool
is_text_byte byte =
    byte == 9 || byte == 10 || byte == 12 || byte == 13 || byte == 26 || (nat_le 32 byte && not (byte == 127))

-- how many bytes of a file tell that it is a text
abbrev pub text_bytes : ℕ
text_bytes = 256

-- what a file is that doesn't begin as a module: by the first line that holds
abbrev pub foreign_kind : List ℕ → Option Foreign
foreign_kind bytes =
    if begins_module bytes then None
    else (if length bytes == 0 then Some foreign.Empty
    else (if begins (0x7F ∷ 0x45 ∷ 0x4C ∷ 0x46 ∷ []) bytes then Some foreign.Elf
    else (if begins_coff bytes then Some foreign.Coff
    else (if begins_macho bytes then Some foreign.MachO
    else (if begins (0x4D ∷ 0x5A ∷ []) bytes then Some foreign.Program
    else (if begins (codes "!<thin>") bytes then Some foreign.ThinArchive
    else (if list_all is_text_byte (take text_bytes bytes) then Some foreign.Text
    else Some foreign.Other)))))))

-- what is said of it
abbrev pub foreign_text : Foreign → List ℕ
foreign_text foreign.Empty = codes "the file is empty"
foreign_text foreign.Elf = codes "this is an ELF file; nasm wants -f obj"
foreign_text foreign.Coff = codes "this is a COFF file; nasm wants -f obj"
foreign_text foreign.MachO = codes "this is a Mach-O file; nasm wants -f obj"
foreign_text foreign.Program = codes "this is a program, linked already"
foreign_text foreign.ThinArchive = codes "this is a thin archive, without its members; ar without T makes a whole one"
foreign_text foreign.Text = codes "this is a text; assemble or compile it first"
foreign_text foreign.Other = codes "this is no object module"

-- what stands behind a fault at a file's first record, whose bytes these are: nothing where it begins as a module
abbrev pub foreign_end : Option Foreign → List ℕ
foreign_end None = []
foreign_end (Some kind) = codes ": " ++ foreign_text kind
