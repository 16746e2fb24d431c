-- The data that fix-ups stand in (TIS OMF 1.1, LEDATA and LIDATA): the last data record before them.
use Rattle.std.specs.Prelude.{ℕ, ◌+◌, ◌-◌, ◌&&◌, Bool, true, nat_le, nat_lt, List, [], ◌∷◌, ◌++◌, length, drop, find}
use Rattle.std.specs.Prelude.{map}
use Rattle.std.specs.declared.option.Option.{Option}
use Rattle.std.specs.Option.{option_map}
use Rattle.omf_record.specs.Record.{Block, Content, Nested, Blocks, End, More, blocks_of}
use Rattle.omf_record.specs.Expansion.{stored_len}

-- a content of 32 bits: the place of its first byte as it is given, its place in the LIDATA of 16 bits that says the
-- same, and its bytes
pub record WideContent : Type 0 where
  pub given : ℕ
  pub said : ℕ
  pub bytes : List ℕ

-- none; that of a segment that is kept out; bytes of a segment, from an offset on; repeated contents, each with the
-- stored place of its first byte; repeated contents of 32 bits
pub data Data : Type 0 where
  Absent : Data
  KeptOut : Data
  Stored : (segment offset : ℕ) (bytes : List ℕ) → Data
  Repeated : (contents : List (ℕ × List ℕ)) → Data
  WideRepeated : (contents : List WideContent) → Data

abbrev mutual
  -- the contents of a block that is stored at a place
  pub contents_at : ℕ → Block → List (ℕ × List ℕ)
  contents_at place (Content repeat bytes) = (place + 5, bytes) ∷ []
  contents_at place (Nested repeat blocks) = all_contents_at (place + 4) blocks

  -- those of blocks, the first of which is stored at a place
  pub all_contents_at : ℕ → Blocks → List (ℕ × List ℕ)
  all_contents_at place End = []
  all_contents_at place (More b bs) = contents_at place b ++ all_contents_at (place + stored_len b) bs

-- of a record's blocks: stored places count from the first byte of the first one
abbrev pub contents : List Block → List (ℕ × List ℕ)
contents blocks = all_contents_at 0 (blocks_of blocks)

-- ---- repeated data of 32 bits: repeat counts have four bytes where those of LIDATA of 16 bits have two

abbrev mutual
  -- each repeat count of a block has 16 bits
  pub has_word_counts : Block → Bool
  has_word_counts (Content repeat bytes) = nat_lt repeat 65536
  has_word_counts (Nested repeat blocks) = nat_lt repeat 65536 && have_word_counts blocks

  -- of blocks
  pub have_word_counts : Blocks → Bool
  have_word_counts End = true
  have_word_counts (More b bs) = has_word_counts b && have_word_counts bs

abbrev mutual
  -- The bytes that a block takes there: a repeat count of four, a word, and the length byte and the content, or the
  -- blocks.
  pub wide_stored_len : Block → ℕ
  wide_stored_len (Content repeat bytes) = 7 + length bytes
  wide_stored_len (Nested repeat blocks) = 6 + all_wide_stored_len blocks

  -- those that blocks take
  pub all_wide_stored_len : Blocks → ℕ
  all_wide_stored_len End = 0
  all_wide_stored_len (More b bs) = wide_stored_len b + all_wide_stored_len bs

abbrev mutual
  -- the contents of a block that is given at a place, and stands at another one of 16 bits
  pub wide_contents_at : (given said : ℕ) → Block → List WideContent
  wide_contents_at given said (Content repeat bytes) =
      record { given = given + 7; said = said + 5; bytes = bytes } ∷ []
  wide_contents_at given said (Nested repeat blocks) = all_wide_contents_at (given + 6) (said + 4) blocks

  -- those of blocks
  pub all_wide_contents_at : (given said : ℕ) → Blocks → List WideContent
  all_wide_contents_at given said End = []
  all_wide_contents_at given said (More b bs) =
      wide_contents_at given said b ++ all_wide_contents_at (given + wide_stored_len b) (said + stored_len b) bs

-- of a record's blocks
abbrev pub wide_contents : List Block → List WideContent
wide_contents blocks = all_wide_contents_at 0 0 (blocks_of blocks)

-- a content as it is given
abbrev pub as_given : WideContent → ℕ × List ℕ
as_given c = (c.given, c.bytes)

-- a place lies in a content
abbrev pub lies_in : (place : ℕ) → ℕ × List ℕ → Bool
lies_in place content = nat_le content.0 place && nat_lt (place - content.0) (length content.1)

-- the bytes from a place on that are stored together with it
abbrev pub together_at : List (ℕ × List ℕ) → (place : ℕ) → Option (List ℕ)
together_at contents place = option_map (λ (from, bytes). drop (place - from) bytes) (find (lies_in place) contents)

-- those of data
abbrev pub stored_at : Data → (place : ℕ) → Option (List ℕ)
stored_at Absent place = together_at [] place
stored_at KeptOut place = together_at [] place
stored_at (Stored segment offset bytes) place = together_at ((0, bytes) ∷ []) place
stored_at (Repeated contents) place = together_at contents place
stored_at (WideRepeated contents) place = together_at (map as_given contents) place

-- the place of 16 bits of what is given at a place, where that lies in a content
abbrev pub said_place : List WideContent → (place : ℕ) → Option ℕ
said_place contents place =
    option_map (λ (c : WideContent). c.said + (place - c.given)) (find (λ c. lies_in place (as_given c)) contents)
