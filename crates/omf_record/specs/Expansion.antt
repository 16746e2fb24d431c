-- What repeated data stands for: each byte with the place at which it is stored (TIS OMF 1.1, LIDATA).
use Rattle.std.specs.Prelude.{◌≡◌, ℕ, ◌+◌, ◌-◌, ◌<◌, ◌≤◌, List, [], ◌∷◌, ◌++◌, length, get_or, map}
use Rattle.std.specs.Prelude.{min, ◌⊎◌}
use Rattle.std.specs.List.{enumerate_from, repeat}
use Rattle.omf_record.specs.Record.{Block, Content, Nested, Blocks, End, More, blocks_of, Record, Theadr, Coment}
use Rattle.omf_record.specs.Record.{Modend, Extdef, Pubdef, Linnum, Lnames, Segdef, Grpdef, Fixupp, Ledata, Lidata}

abbrev mutual
  -- The bytes that a block takes in its body: two words, and the length byte and the content, or the blocks.
  pub stored_len : Block → ℕ
  stored_len (Content repeat bytes) = 5 + length bytes
  stored_len (Nested repeat blocks) = 4 + all_stored_len blocks

  -- the bytes that blocks take in their body
  pub all_stored_len : Blocks → ℕ
  all_stored_len End = 0
  all_stored_len (More b bs) = stored_len b + all_stored_len bs

abbrev mutual
  -- the expansion of a block that is stored at a place
  pub expansion_at : ℕ → Block → List (ℕ × ℕ)
  expansion_at place (Content count bytes) = repeat count (enumerate_from (place + 5) bytes)
  expansion_at place (Nested count blocks) = repeat count (expansions_at (place + 4) blocks)

  -- the expansions of blocks, the first of which is stored at a place
  pub expansions_at : ℕ → Blocks → List (ℕ × ℕ)
  expansions_at place End = []
  expansions_at place (More b bs) = expansion_at place b ++ expansions_at (place + stored_len b) bs

-- The expansion of a record's blocks: pairs of stored place and byte. Places count from the first byte of the first
-- block.
unfoldable pub expansion : List Block → List (ℕ × ℕ)
expansion blocks = expansions_at 0 (blocks_of blocks)

-- the stored places of an expansion
abbrev pub places : List (ℕ × ℕ) → List ℕ
places pairs = map (λ p. p.0) pairs

-- the bytes of an expansion
abbrev pub bytes : List (ℕ × ℕ) → List ℕ
bytes pairs = map (λ p. p.1) pairs

-- the bytes that a record's blocks take in its body
unfoldable pub blocks_len : List Block → ℕ
blocks_len blocks = all_stored_len (blocks_of blocks)

-- the bytes that a record's data take in its body
unfoldable pub data_len : Record → ℕ
data_len (Theadr name) = 0
data_len (Coment kind class bytes) = 0
data_len (Modend main start) = 0
data_len (Extdef local names) = 0
data_len (Pubdef local base publics) = 0
data_len (Linnum group segment lines) = 0
data_len (Lnames names) = 0
data_len (Segdef segment) = 0
data_len (Grpdef name segments) = 0
data_len (Fixupp subrecords) = 0
data_len (Ledata segment offset bytes) = length bytes
data_len (Lidata segment offset blocks) = blocks_len blocks

-- ---- the length of an expansion, without making it

-- up to 65,536, and else 65,537
abbrev pub capped : ℕ → ℕ
capped n = min n 65537

-- ---- contents

-- a content: the place of its first byte, and its length
abbrev mutual
  -- the contents of a block that is stored at a place
  pub contents_at : ℕ → Block → List (ℕ × ℕ)
  contents_at place (Content repeat bytes) = (place + 5, length bytes) ∷ []
  contents_at place (Nested repeat blocks) = all_contents_at (place + 4) blocks

  -- the contents of blocks, the first of which is stored at a place
  pub all_contents_at : ℕ → Blocks → List (ℕ × ℕ)
  all_contents_at place End = []
  all_contents_at place (More b bs) = contents_at place b ++ all_contents_at (place + stored_len b) bs

-- of a record's blocks
unfoldable pub contents : List Block → List (ℕ × ℕ)
contents blocks = all_contents_at 0 (blocks_of blocks)

-- so many stored places from one on lie wholly in a content
abbrev pub LiesIn : ℕ → ℕ → ℕ × ℕ → Type 0
LiesIn at width content = (content.0 ≤ at) × (at + width ≤ content.0 + content.1)

-- in one of these contents
abbrev pub LiesInOne : ℕ → ℕ → List (ℕ × ℕ) → Type 0
LiesInOne at width [] = ⊥
LiesInOne at width (content ∷ others) = LiesIn at width content ⊎ LiesInOne at width others

-- from each position with the stored place on, the places stand one after the other
abbrev pub StandTogether : ℕ → ℕ → List ℕ → Type 0
StandTogether at width places =
    (i k : ℕ) → i < length places → get_or places i 0 ≡ at → k < width
    → (i + k < length places) × (get_or places (i + k) 0 ≡ at + k)

-- each byte that was stored at one of so many places from `at` on stands in a whole copy of them
abbrev pub StandWhole : ℕ → ℕ → List ℕ → Type 0
StandWhole at width places =
    (i k : ℕ) → i < length places → k < width → get_or places i 0 ≡ at + k → (k ≤ i) × (get_or places (i - k) 0 ≡ at)

-- bytes that were stored at one place are one byte
abbrev pub AreCopies : List (ℕ × ℕ) → Type 0
AreCopies pairs =
    (i j : ℕ) → i < length pairs → j < length pairs → get_or (places pairs) i 0 ≡ get_or (places pairs) j 0
    → get_or (bytes pairs) i 0 ≡ get_or (bytes pairs) j 0
