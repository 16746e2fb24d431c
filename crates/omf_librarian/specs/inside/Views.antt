-- What the code's values say, without where they lie in memory.
use Rattle.std.specs.Prelude.{◌≡◌, ◌≤◌, ℕ, Bool, true, false, List, length, map, Some, None, Ok, Err, Vec}
use Rattle.std.specs.declared.option.Option.{Option}
use Rattle.std.specs.declared.result.Result.{Result}
use Rattle.std.specs.Borrow.{Bor}
use Rattle.std.specs.List.{fold}
use Rattle.omf_librarian.specs.Hashing as said
use Rattle.omf_librarian.specs.Hashing.{turned_left, turned_right}
use Rattle.omf_librarian.specs.Dictionary as plain
use Rattle.omf_librarian.specs.Entering.{entered, entered_in, full_block}
use Rattle.omf_librarian.specs.Naming as names
use Rattle.omf_librarian.specs.declared.hashing.Hash.{Hash}
use Rattle.omf_librarian.specs.declared.hashing.Turned.{Turned}
use Rattle.omf_librarian.specs.declared.block.Entry.{Entry}

-- both hashes of these bytes
pub record IsTurned (bytes : List ℕ) (turned : Turned) : Type 0 where
  pub left : turned.left ≡ fold turned_left 0 bytes
  pub right : turned.right ≡ fold turned_right 0 bytes

abbrev pub hash_view : Hash → said.Hash
hash_view h = record {
  block = h.block;
  block_delta = h.block_delta;
  bucket = h.bucket;
  bucket_delta = h.bucket_delta;
}

abbrev pub entry_view : Entry → plain.Entry
entry_view e = record { name = e.name.now; page = e.page }

-- an entry stands in a block now, or doesn't and the block is passed
abbrev pub BlockEntered : (old new : List ℕ) → said.Hash → plain.Entry → (is_entered : Bool) → Type 0
BlockEntered old new hash e true = entered_in old hash e ≡ Some new
BlockEntered old new hash e false = (entered_in old hash e ≡ None) × (new ≡ full_block old)

-- the same of a dictionary
abbrev pub IsEntered : (blocks : ℕ) → (old new : List ℕ) → plain.Entry → (is_entered : Bool) → Type 0
IsEntered blocks old new e true = entered blocks old e ≡ Some new
IsEntered blocks old new e false = entered blocks old e ≡ None

-- the name has room in an entry
abbrev pub IsShort : Entry → Type 0
IsShort e = length e.name.now ≤ 255

abbrev pub items_of : {A : Type 0} → Vec ℕ A → List ℕ
items_of v = v.items
