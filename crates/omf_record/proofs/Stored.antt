-- The data of a record take no more bytes than its canonical body.
use Rattle.std.proofs.Common.{◌≡◌, ◌≤◌, ◌++◌, length, refl, ap, arith}
use Rattle.std.proofs.lemmas.List.{length-append}
use Rattle.std.specs.List.{flat_map}
use Rattle.omf_record.specs.Record.{Block, Content, Nested, Blocks, End, More, blocks_of, Record, Ledata, Lidata}
use Rattle.omf_record.specs.Canonical as canon
use Rattle.omf_record.specs.inside.Blocks.{blocks-flat}
use Rattle.omf_record.specs.Expansion.{stored_len, all_stored_len, blocks_len, data_len}

mutual
  pub length-block : (b : Block) → length (canon.block b) ≡ stored_len b
  length-block (Content repeat bytes) = omega arith
  length-block (Nested repeat blocks) = omega (arith, length-blocks blocks)

  pub length-blocks : (bs : Blocks) → length (canon.blocks_text bs) ≡ all_stored_len bs
  length-blocks End = refl
  length-blocks (More b bs) =
      omega (arith, length-append (canon.block b) (canon.blocks_text bs), length-block b, length-blocks bs)

pub data_within : (r : Record) → data_len r ≤ length (canon.canonical r)
unfolding data_len blocks_len canon.canonical
data_within (Ledata segment offset bytes) =
    omega (
      arith,
      length-append (canon.index segment) (canon.word offset ++ bytes),
      length-append (canon.word offset) bytes,
    )
data_within (Lidata segment offset blocks) = omega (
  arith,
  length-append (canon.index segment) (canon.word offset ++ flat_map canon.block blocks),
  length-append (canon.word offset) (flat_map canon.block blocks),
  ap length (blocks-flat blocks),
  length-blocks (blocks_of blocks),
)
data_within _ = omega arith
