-- What `program` prints of an MS-DOS executable file, whose header and relocation table Microsoft published: fourteen
-- words from place 0 on, and an entry for each word to which the loader adds the paragraph.
use Rattle.std.specs.Prelude.{ℕ, ◌-◌, List, [], ◌∷◌, ◌++◌, length, codes, decimal, Ok, Err}
use Rattle.std.specs.declared.result.Result.{Result}
use Rattle.std.specs.List.{concat, flat_map}
use Rattle.omf_image.specs.Words.{word_at}
use Rattle.omf_text.specs.Printing.{hexadecimal, printed_name, right}
use Rattle.mz.specs.declared.fault.FileFault.{FileFault}
use Rattle.mz.specs.declared.format.Entry.{Entry}
use Rattle.mz.specs.declared.format.Header.{Header}
use Rattle.mz.specs.File.{MzFile}
use Rattle.mz.specs.Header.{entry_address, header_at, header_len, magic, told_len}
use Rattle.mz.specs.Loading.{needed_len}
use Rattle.mz.specs.Reading.{reading}

-- a word of the header: its place in the file, its value, and what it is called
pub record NamedWord : Type 0 where
  pub place : ℕ
  pub value : ℕ
  pub name : List ℕ

abbrev pub named : (place value : ℕ) (name : List ℕ) → NamedWord
named place value name = record { place = place; value = value; name = name }

-- the words of a header: e_magic, e_cblp, e_cp, e_crlc, e_cparhdr, e_minalloc, e_maxalloc, e_ss, e_sp, e_csum, e_ip,
-- e_cs, e_lfarlc and e_ovno
abbrev pub header_words : Header → List NamedWord
header_words header =
    named 0x00 magic (codes "signature")
    ∷ named 0x02 header.last_page_bytes (codes "bytes in last page")
    ∷ named 0x04 header.pages (codes "pages")
    ∷ named 0x06 header.relocation_count (codes "relocations")
    ∷ named 0x08 header.header_paragraphs (codes "header paragraphs")
    ∷ named 0x0A header.least_extra_paragraphs (codes "minimum allocation")
    ∷ named 0x0C header.greatest_extra_paragraphs (codes "maximum allocation")
    ∷ named 0x0E header.registers.ss (codes "initial SS")
    ∷ named 0x10 header.registers.sp (codes "initial SP")
    ∷ named 0x12 header.checksum (codes "checksum")
    ∷ named 0x14 header.registers.ip (codes "initial IP")
    ∷ named 0x16 header.registers.cs (codes "initial CS")
    ∷ named 0x18 header.relocation_table (codes "relocation table offset")
    ∷ named 0x1A header.overlay (codes "overlay")
    ∷ []

-- the line of a file at a path
abbrev pub title : (path : List ℕ) → List ℕ
title path = concat (codes "program " ∷ printed_name path ∷ codes "\n" ∷ [])

-- the line of a word of the header
abbrev pub word_line : NamedWord → List ℕ
word_line word =
    concat (codes "  " ∷ hexadecimal 2 word.place ∷ codes " " ∷ hexadecimal 4 word.value ∷ codes " " ∷ word.name
    ∷ codes "\n" ∷ [])

-- those of a header
abbrev pub header_lines : Header → List ℕ
header_lines header = flat_map word_line (header_words header)

-- the line of a number of bytes
abbrev pub size_line : (count : ℕ) (what : List ℕ) → List ℕ
size_line count what = concat (codes "  " ∷ right 7 (decimal count) ∷ codes " bytes " ∷ what ∷ codes "\n" ∷ [])

-- what the words mean in bytes: the length of the header and of the image, how many bytes of the file stand behind
-- that, and how many bytes of memory the program needs at least from the image's first byte on
abbrev pub size_lines : (header image behind memory : ℕ) → List ℕ
size_lines header image behind memory =
    size_line header (codes "of the header")
    ++ (size_line image (codes "of the image")
    ++ (size_line behind (codes "behind the image")
    ++ size_line memory (codes "of memory at least")))

-- the line of a relocated word: where its entry says that it stands, its address in the image, and the word
abbrev pub relocation_line : (image : List ℕ) → Entry → List ℕ
relocation_line image entry =
    concat (codes "  " ∷ hexadecimal 4 entry.segment ∷ codes ":" ∷ hexadecimal 4 entry.offset ∷ codes " -> "
    ∷ hexadecimal 8 (entry_address entry) ∷ codes " " ∷ hexadecimal 4 (word_at image (entry_address entry))
    ∷ codes "\n" ∷ [])

-- what is printed of a file at a path, behind whose image stand so many bytes more
abbrev pub program_lines : (path : List ℕ) → MzFile → (behind : ℕ) → List ℕ
program_lines path file behind =
    title path ++ (header_lines file.header
    ++ (size_lines (header_len file.header) (length file.image) behind (needed_len file)
    ++ flat_map (relocation_line file.image) file.entries))
