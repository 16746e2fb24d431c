-- The hashes of a name, by which a dictionary is searched (TIS OMF 1.1, Appendix 2, "Dictionary Hashing Algorithm").
use Rattle.std.specs.Prelude.{ℕ, ◌-◌, ◌%◌, List, [], ◌∷◌, length, take, reverse, max, bit_or, bit_xor}
use Rattle.std.specs.Int.{rotate_left, rotate_right, w16}
use Rattle.std.specs.List.{fold}

-- a hash of 16 bits, turned by two bits, with the next byte, whose bit 5 is set: a letter counts as the small one
unfoldable pub turned_left : (hash : ℕ) → (byte : ℕ) → ℕ
turned_left hash byte = bit_xor (rotate_left w16 hash 2) (bit_or byte 0x20)

unfoldable pub turned_right : (hash : ℕ) → (byte : ℕ) → ℕ
turned_right hash byte = bit_xor (rotate_right w16 hash 2) (bit_or byte 0x20)

-- as many bytes as the name has: from the front, beginning with that of its length, and from the end
abbrev pub from_front : List ℕ → List ℕ
from_front name = take (length name) (length name ∷ name)

abbrev pub from_end : List ℕ → List ℕ
from_end name = reverse name

-- where a search begins, and how far it goes on from block to block, and from bucket to bucket in a block
pub record Hash : Type 0 where
  pub block : ℕ
  pub block_delta : ℕ
  pub bucket : ℕ
  pub bucket_delta : ℕ

-- that of a name in a dictionary of so many blocks
unfoldable pub hash_of : (blocks : ℕ) → List ℕ → Hash
hash_of blocks name = record {
  block = fold turned_left 0 (from_front name) % blocks;
  block_delta = max 1 (fold turned_left 0 (from_end name) % blocks);
  bucket = fold turned_right 0 (from_end name) % 37;
  bucket_delta = max 1 (fold turned_right 0 (from_front name) % 37);
}
