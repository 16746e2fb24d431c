-- What a record says that is taken (TIS OMF 1.1, the section of each), free of how its body spells it.
use Rattle.std.specs.Prelude.{ℕ, List}
use Rattle.omf_record.specs.Expansion.{blocks_len}
use Rattle.omf_record.specs.Record.{Block, Record, Lidata, blocks_of}
use Rattle.omf_extended.specs.Said.{Extended}
use Rattle.omf_plain.specs.Data.{all_wide_stored_len}
use Rattle.omf_wide.specs.Said as wide
use Rattle.omf_wide.specs.Said.{Said}

-- one of the fourteen of 16 bits; one of 32 bits, or of a type that says the same as another; data of 32 bits from an
-- offset on, and repeated data, whose repeat counts have four bytes; one that came after Intel's
pub data Given : Type 0 where
  Narrow : (record' : Record) → Given
  Wide : (said : Said) → Given
  Data : (segment offset : ℕ) (bytes : List ℕ) → Given
  Repeated : (segment offset : ℕ) (blocks : List Block) → Given
  Later : (said : Extended) → Given

-- the bytes that the blocks of repeated data take in its body
abbrev pub repeated_len : Record → ℕ
repeated_len (Lidata segment offset blocks) = blocks_len blocks
repeated_len _ = 0

abbrev pub said_len : Said → ℕ
said_len (wide.Plain r) = repeated_len r
said_len _ = 0

abbrev pub given_len : Given → ℕ
given_len (Narrow r) = repeated_len r
given_len (Wide said) = said_len said
given_len (Repeated segment offset blocks) = all_wide_stored_len (blocks_of blocks)
given_len _ = 0
