-- The dictionary of a library (TIS OMF 1.1, Appendix 2, "Dictionary"): how a linker finds a name in it. It is blocks of
-- 512 bytes. A block begins with its 37 buckets, of a byte each, and a byte behind them that tells where its free space
-- begins, or with FFH that it is full.
use Rattle.std.specs.Prelude.{ℕ, zero, suc, ◌+◌, ◌*◌, ◌%◌, ◌==◌, Bool, if◌then◌else◌, List, take, drop, slice_index}
use Rattle.std.specs.Prelude.{slice_range, Some, None}
use Rattle.std.specs.declared.option.Option.{Option}
use Rattle.std.specs.Str.{bytes_eq}
use Rattle.omf_librarian.specs.Hashing.{Hash, hash_of}

-- an entry: a name, and the number of the page at which the member begins that offers it
pub record Entry : Type 0 where
  pub name : List ℕ
  pub page : ℕ

abbrev pub block_at : List ℕ → (block : ℕ) → List ℕ
block_at dictionary block = take 512 (drop (512 * block) dictionary)

-- the entry at a place of a block: the length of a name, the name, and a word
abbrev pub entry_at : List ℕ → (place : ℕ) → Entry
entry_at block place =
    let behind = place + 1 + slice_index block place in
    record {
      name = slice_range block (place + 1) behind;
      page = slice_index block behind + 256 * slice_index block (behind + 1);
    }

-- the entry of a bucket: it stands as many words into the block as the bucket says; with 0 the bucket is empty
unfoldable pub entry_of : List ℕ → (bucket : ℕ) → Option Entry
entry_of block bucket =
    if slice_index block bucket == 0 then None else Some (entry_at block (2 * slice_index block bucket))

unfoldable pub is_full : List ℕ → Bool
is_full block = slice_index block 37 == 0xFF

-- what a search in one block comes to: the page of the name, an empty bucket, or neither in all its buckets
pub data Ending : Type 0 where
  Found : (page : ℕ) → Ending
  Empty : Ending
  Passed : Ending

-- at the bucket that has this entry, from which the search goes on to that ending
abbrev pub ending_at : (name : List ℕ) → (further : Ending) → Option Entry → Ending
ending_at name further None = Empty
ending_at name further (Some e) = if bytes_eq e.name name then Found e.page else further

-- from a bucket on, over so many
abbrev pub in_buckets : ℕ → (block : List ℕ) → Hash → (name : List ℕ) → (bucket : ℕ) → Ending
in_buckets zero block hash name bucket = Passed
in_buckets (suc most) block hash name bucket =
    ending_at name (in_buckets most block hash name ((bucket + hash.bucket_delta) % 37)) (entry_of block bucket)

unfoldable pub in_block : (block : List ℕ) → Hash → (name : List ℕ) → Ending
in_block block hash name = in_buckets 37 block hash name hash.bucket

-- an empty bucket ends the search, unless the block is full
abbrev pub page_by : (further : Option ℕ) → (is_full : Bool) → Ending → Option ℕ
page_by further is_full (Found page) = Some page
page_by further is_full Empty = if is_full then further else None
page_by further is_full Passed = further

-- from a block on, over so many
abbrev pub in_blocks : ℕ → (blocks : ℕ) → (dictionary : List ℕ) → Hash → (name : List ℕ) → (block : ℕ) → Option ℕ
in_blocks zero blocks dictionary hash name block = None
in_blocks (suc most) blocks dictionary hash name block =
    page_by (in_blocks most blocks dictionary hash name ((block + hash.block_delta) % blocks))
    (is_full (block_at dictionary block)) (in_block (block_at dictionary block) hash name)

-- the page of a name, by a dictionary of so many blocks
unfoldable pub looked_up_in : (blocks : ℕ) → (dictionary : List ℕ) → (name : List ℕ) → Option ℕ
looked_up_in blocks dictionary name =
    let hash = hash_of blocks name in in_blocks blocks blocks dictionary hash name hash.block

-- a number of two bytes at a place, and one of four
abbrev pub word_at : List ℕ → (place : ℕ) → ℕ
word_at bytes place = slice_index bytes place + 256 * slice_index bytes (place + 1)

abbrev pub long_at : List ℕ → (place : ℕ) → ℕ
long_at bytes place = word_at bytes place + 65536 * word_at bytes (place + 2)

-- the page of a name in a library: its header has the place of the dictionary behind its type and its length word, and
-- then the number of blocks
unfoldable pub looked_up : (file : List ℕ) → (name : List ℕ) → Option ℕ
looked_up file name = looked_up_in (word_at file 7) (drop (long_at file 3) file) name
