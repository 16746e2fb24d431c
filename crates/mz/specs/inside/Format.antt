-- The bytes of a header and of an entry, and where a header has its relocation table.
use Rattle.std.specs.Prelude.{ℕ, ◌+◌, ◌*◌, Bool, ◌&&◌, nat_le, List, [], ◌∷◌, ◌++◌, flat_map}
use Rattle.mz.specs.declared.format.Header.{Header}
use Rattle.mz.specs.declared.format.Entry.{Entry}
use Rattle.mz.specs.Header.{magic, word_bytes, header_len}

-- e_magic, e_cblp, e_cp, e_crlc, e_cparhdr, e_minalloc, e_maxalloc, e_ss, e_sp, e_csum, e_ip, e_cs, e_lfarlc and e_ovno
abbrev pub header_words : Header → List ℕ
header_words header =
    magic ∷ header.last_page_bytes ∷ header.pages ∷ header.relocation_count ∷ header.header_paragraphs
    ∷ header.least_extra_paragraphs ∷ header.greatest_extra_paragraphs
    ∷ header.registers.ss ∷ header.registers.sp ∷ header.checksum ∷ header.registers.ip ∷ header.registers.cs
    ∷ header.relocation_table ∷ header.overlay ∷ []

-- the 28 bytes of a header
abbrev pub header_bytes : Header → List ℕ
header_bytes header = flat_map word_bytes (header_words header)

-- the four bytes of an entry
abbrev pub entry_bytes : Entry → List ℕ
entry_bytes entry = word_bytes entry.offset ++ word_bytes entry.segment

-- the relocation table begins behind the words of the header and ends in the header
abbrev pub has_table_inside : Header → Bool
has_table_inside header =
    nat_le 28 header.relocation_table
    && nat_le (header.relocation_table + 4 * header.relocation_count) (header_len header)
