-- The header of an MS-DOS executable file as Microsoft published it: fourteen words from place 0 on, low byte first.
-- The relocation table, whose place the header tells, has an entry of two words for each relocated word.
use Rattle.std.specs.Prelude.{ℕ, ◌+◌, ◌-◌, ◌*◌, ◌/◌, ◌%◌, ◌==◌, Bool, not, ◌&&◌, ◌||◌, nat_le, if◌then◌else◌, List}
use Rattle.std.specs.Prelude.{[], ◌∷◌}
use Rattle.omf_image.specs.Words.{word_at}
use Rattle.mz.specs.declared.format.Header.{Header}
use Rattle.mz.specs.declared.format.Entry.{Entry}

-- e_magic: the letters MZ, the bytes 4D 5A
abbrev pub magic : ℕ
magic = 23117

-- the two bytes of a word
abbrev pub word_bytes : ℕ → List ℕ
word_bytes word = word % 256 ∷ word / 256 % 256 ∷ []

-- the header that begins a file
unfoldable pub header_at : List ℕ → Header
header_at bytes = record {
  last_page_bytes = word_at bytes 2;
  pages = word_at bytes 4;
  relocation_count = word_at bytes 6;
  header_paragraphs = word_at bytes 8;
  least_extra_paragraphs = word_at bytes 10;
  greatest_extra_paragraphs = word_at bytes 12;
  registers = record { cs = word_at bytes 22; ip = word_at bytes 20; ss = word_at bytes 14; sp = word_at bytes 16 };
  checksum = word_at bytes 18;
  relocation_table = word_at bytes 24;
  overlay = word_at bytes 26;
}

-- how many bytes stand before the image
abbrev pub header_len : Header → ℕ
header_len header = 16 * header.header_paragraphs

-- how many bytes the file has, by its pages of 512 bytes, the last of which may be partly filled
abbrev pub told_len : Header → ℕ
told_len header =
    if header.last_page_bytes == 0 then 512 * header.pages else 512 * (header.pages - 1) + header.last_page_bytes

-- there is a page, the last one has at most 511 bytes where it isn't full, and the header has its words and lies in the
-- file; the relocation table, where it has an entry, begins behind the words of the header and ends in the header
abbrev pub is_accepted : Header → Bool
is_accepted header =
    nat_le 1 header.pages && nat_le header.last_page_bytes 511
    && nat_le 28 (header_len header) && nat_le (header_len header) (told_len header)
    && ((header.relocation_count == 0) || (nat_le 28 header.relocation_table
    && nat_le (header.relocation_table + 4 * header.relocation_count) (header_len header)))

-- the entry that stands at a place of a file
abbrev pub entry_at : (place : ℕ) → List ℕ → Entry
entry_at place bytes = record { offset = word_at bytes place; segment = word_at bytes (place + 2) }

-- the address of an entry's word, counted from the image's first byte
abbrev pub entry_address : Entry → ℕ
entry_address entry = 16 * entry.segment + entry.offset

-- the word lies in its segment, and in an image of this length
abbrev pub is_inside : (len : ℕ) → Entry → Bool
is_inside len entry = not (entry.offset == 65535) && nat_le (entry_address entry + 2) len
