-- A dictionary is made: a name goes where the search for it ends (TIS OMF 1.1, Appendix 2).
use Rattle.std.specs.Prelude.{ℕ, zero, suc, ◌+◌, ◌*◌, ◌/◌, ◌%◌, ◌==◌, if◌then◌else◌, nat_le, List, [], ◌∷◌, ◌++◌}
use Rattle.std.specs.Prelude.{length, take, drop, set, replicate, slice_index, min, Some, None}
use Rattle.std.specs.declared.option.Option.{Option}
use Rattle.std.specs.Int.{to_le_bytes, w16}
use Rattle.std.specs.List.{repeat}
use Rattle.std.specs.Option.{option_and_then, option_or}
use Rattle.omf_librarian.specs.Hashing.{Hash, hash_of}
use Rattle.omf_librarian.specs.Dictionary.{Entry, block_at}

-- ---- in a block

-- a block without entries: its free space begins behind 38 bytes
unfoldable pub empty_block : List ℕ
empty_block = replicate 37 0 ++ 19 ∷ replicate 474 0

-- the first bucket on the way that is empty, among so many
abbrev pub empty_bucket : ℕ → (block : List ℕ) → Hash → (bucket : ℕ) → Option ℕ
empty_bucket zero block hash bucket = None
empty_bucket (suc most) block hash bucket =
    if slice_index block bucket == 0 then Some bucket
    else empty_bucket most block hash ((bucket + hash.bucket_delta) % 37)

unfoldable pub first_empty : (block : List ℕ) → Hash → Option ℕ
first_empty block hash = empty_bucket 37 block hash hash.bucket

-- the bytes of an entry
abbrev pub entry_bytes : Entry → List ℕ
entry_bytes e = length e.name ∷ (e.name ++ to_le_bytes w16 e.page)

-- how many words they take: an entry begins at an even place
abbrev pub entry_words : Entry → ℕ
entry_words e = (length e.name + 4) / 2

-- so many bytes at a place are replaced by these
abbrev pub overwritten : (place : ℕ) → (bytes : List ℕ) → List ℕ → List ℕ
overwritten place bytes block = take place block ++ (bytes ++ drop (length bytes) (drop place block))

-- the entry stands at the free space, which then begins behind it; FFH tells that there is none
abbrev pub with_entry : List ℕ → (bucket : ℕ) → Entry → List ℕ
with_entry block bucket e =
    let free = slice_index block 37 in
    set (set (overwritten (2 * free) (entry_bytes e) block) bucket free) 37 (min (free + entry_words e) 0xFF)

-- a block with the entry in an empty bucket, where it has room for it: 256 words are all
abbrev pub entered_at : List ℕ → Entry → Option ℕ → Option (List ℕ)
entered_at block e None = None
entered_at block e (Some bucket) =
    if nat_le (slice_index block 37 + entry_words e) 256 then Some (with_entry block bucket e) else None

unfoldable pub entered_in : List ℕ → Hash → Entry → Option (List ℕ)
entered_in block hash e = entered_at block e (first_empty block hash)

-- a block that has no empty bucket or no room is full from then on, so that each search goes on behind it
unfoldable pub full_block : List ℕ → List ℕ
full_block block = set block 37 0xFF

-- ---- in a dictionary

abbrev pub with_block : List ℕ → (at : ℕ) → (block : List ℕ) → List ℕ
with_block dictionary at block = take (512 * at) dictionary ++ (block ++ drop 512 (drop (512 * at) dictionary))

-- the dictionary with an entry in the block, or in one behind it
abbrev pub entered_or : (dictionary : List ℕ) → (at : ℕ) → (further : Option (List ℕ)) → Option (List ℕ)
    → Option (List ℕ)
entered_or dictionary at further None = further
entered_or dictionary at further (Some block) = Some (with_block dictionary at block)

-- from a block on, over so many
abbrev pub entered_from : ℕ → (blocks : ℕ) → (dictionary : List ℕ) → Hash → Entry → (at : ℕ) → Option (List ℕ)
entered_from zero blocks dictionary hash e at = None
entered_from (suc most) blocks dictionary hash e at =
    entered_or dictionary at
    (entered_from most blocks (with_block dictionary at (full_block (block_at dictionary at))) hash e
    ((at + hash.block_delta) % blocks))
    (entered_in (block_at dictionary at) hash e)

unfoldable pub entered : (blocks : ℕ) → (dictionary : List ℕ) → Entry → Option (List ℕ)
entered blocks dictionary e =
    let hash = hash_of blocks e.name in entered_from blocks blocks dictionary hash e hash.block

-- all entries, in their order
abbrev pub all_entered : (blocks : ℕ) → (dictionary : List ℕ) → List Entry → Option (List ℕ)
all_entered blocks dictionary [] = Some dictionary
all_entered blocks dictionary (e ∷ es) = option_and_then (λ d. all_entered blocks d es) (entered blocks dictionary e)

-- a dictionary of so many blocks, where they have room for all
unfoldable pub filled : (blocks : ℕ) → List Entry → Option (List ℕ)
filled blocks es = all_entered blocks (repeat blocks empty_block) es

-- ---- the number of blocks

-- it is a prime: one of these, since a dictionary has at most 251 blocks
unfoldable pub primes : List ℕ
primes =
    2 ∷ 3 ∷ 5 ∷ 7 ∷ 11 ∷ 13 ∷ 17 ∷ 19 ∷ 23 ∷ 29 ∷ 31 ∷ 37 ∷ 41 ∷ 43 ∷ 47 ∷ 53 ∷ 59 ∷ 61 ∷ 67 ∷ 71 ∷ 73 ∷ 79 ∷ 83 ∷ 89
    ∷ 97 ∷ 101 ∷ 103 ∷ 107 ∷ 109 ∷ 113 ∷ 127 ∷ 131 ∷ 137 ∷ 139 ∷ 149 ∷ 151 ∷ 157 ∷ 163 ∷ 167 ∷ 173 ∷ 179 ∷ 181 ∷ 191
    ∷ 193 ∷ 197 ∷ 199 ∷ 211 ∷ 223 ∷ 227 ∷ 229 ∷ 233 ∷ 239 ∷ 241 ∷ 251 ∷ []

-- the dictionary with the first of these numbers of blocks that have room for all
abbrev pub first_filled : (numbers : List ℕ) → List Entry → Option (List ℕ)
first_filled [] es = None
first_filled (blocks ∷ more) es = option_or (filled blocks es) (first_filled more es)

unfoldable pub dictionary_of : List Entry → Option (List ℕ)
dictionary_of es = first_filled primes es
