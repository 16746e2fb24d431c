-- The file of a program, as Microsoft published the EXE file: the header, the relocation table, bytes 00 to a whole
-- paragraph, the image. The file's image is the written part of the program's, up to the last byte that data covers.
use Rattle.std.specs.Prelude.{◌≡◌, ℕ, ◌+◌, ◌-◌, ◌*◌, ◌/◌, ◌%◌, List, [], ◌∷◌, ◌++◌, flat_map, take, replicate, length}
use Rattle.omf_image.specs.Program.{Program, IsProgram}
use Rattle.mz.specs.declared.format.Header.{Header}
use Rattle.mz.specs.declared.format.Entry.{Entry}
use Rattle.mz.specs.Header.{magic, word_bytes}

-- the first bytes of the program's image, as many as are written
abbrev pub file_image : Program → List ℕ
file_image program = take program.written program.image

-- the paragraphs of a header with a table of so many entries
abbrev pub paragraphs : ℕ → ℕ
paragraphs count = (28 + 4 * count + 15) / 16

-- how many bytes the file has
abbrev pub file_len : Program → ℕ
file_len program = 16 * paragraphs (length program.relocations) + program.written

-- e_minalloc: the paragraphs behind the whole ones of the file's image, up to the end of the program
abbrev pub extra_paragraphs : Program → ℕ
extra_paragraphs program = (length program.image + 15) / 16 - program.written / 16

-- the words of the header: e_magic, e_cblp, e_cp, e_crlc, e_cparhdr, e_minalloc, e_maxalloc, which asks for all memory
-- behind the program, e_ss, e_sp, e_csum, e_ip, e_cs, e_lfarlc and e_ovno
abbrev pub words_of : Program → List ℕ
words_of program =
    magic ∷ file_len program % 512 ∷ (file_len program + 511) / 512 ∷ length program.relocations
    ∷ paragraphs (length program.relocations) ∷ extra_paragraphs program ∷ 65535
    ∷ program.registers.ss ∷ program.registers.sp ∷ 0 ∷ program.registers.ip ∷ program.registers.cs ∷ 28 ∷ 0 ∷ []

-- the same as a header: it asks for all memory behind the program (e_maxalloc), and CS, IP, SS and SP are the
-- program's
abbrev pub header_of : Program → Header
header_of program = record {
  last_page_bytes = file_len program % 512;
  pages = (file_len program + 511) / 512;
  relocation_count = length program.relocations;
  header_paragraphs = paragraphs (length program.relocations);
  least_extra_paragraphs = extra_paragraphs program;
  greatest_extra_paragraphs = 65535;
  registers = program.registers;
  checksum = 0;
  relocation_table = 28;
  overlay = 0;
}

-- the entry of the word at an address, whose offset is so small that the word ends in its segment
abbrev pub entry_of : ℕ → Entry
entry_of address = record { offset = address % 16; segment = address / 16 }

-- the relocation table for words at these addresses
abbrev pub table_bytes : (addresses : List ℕ) → List ℕ
table_bytes addresses = flat_map (λ address. word_bytes (address % 16) ++ word_bytes (address / 16)) addresses

-- bytes 00 from the end of the table to the end of the header's last paragraph
abbrev pub padding : Program → List ℕ
padding program = replicate (16 * paragraphs (length program.relocations) - (28 + 4 * length program.relocations)) 0

-- the bytes of the file
unfoldable pub file_bytes : Program → List ℕ
file_bytes program =
    flat_map word_bytes (words_of program) ++ table_bytes program.relocations ++ padding program
    ++ take program.written program.image

-- these bytes are the file of a program
abbrev pub Mz : Program → List ℕ → Type 0
Mz program bytes = IsProgram program × (bytes ≡ file_bytes program)

-- what a file holds: the words of its header, its relocation table and its image
pub record MzFile : Type 0 where
  pub header : Header
  pub entries : List Entry
  pub image : List ℕ
