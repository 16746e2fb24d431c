use Rattle.std.proofs.Common.{map}
use Rattle.omf_extended.specs.View.{wide_block_view}
use Rattle.omf_extended.proofs.Blocks.{lidata_fault, lidata_whole, refused_within, repeated_whole}
use Rattle.omf_extended.proofs.repeated.parse_wide_repeated.Goals as goal

pub returns-in-Ok : goal.returns-in-Ok
returns-in-Ok g c =
    let r = c.in-Ok.read in
    repeated_whole c.args.bytes.now c.in-Ok.segment c.in-Ok.offset r.content.now (map wide_block_view r.blocks.items)
    (lidata_whole c.args.bytes.now _ _ (rw c.in-Ok.is at c.read_lidata.ensures.reads))
    (rw c.in-Ok.is at c.read_lidata.ensures.blocks)

pub overflow_sub-result : goal.overflow_sub-result
overflow_sub-result g c =
    refused_within c.args.bytes.now c.in-Err-Refused.bad.now
    (rw c.in-Err-Refused.field-0-is at c.in-Err-Refused.ensures.reads)

pub returns-in-Err-Refused : goal.returns-in-Err-Refused
returns-in-Err-Refused g c =
    lidata_fault c.args.bytes.now c.in-Err-Refused.bad.now
    (rw c.in-Err-Refused.field-0-is at c.in-Err-Refused.ensures.reads)
