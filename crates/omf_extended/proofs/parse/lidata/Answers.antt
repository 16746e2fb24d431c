use Rattle.omf_extended.proofs.Blocks.{lidata_fault, refused_within}
use Rattle.omf_extended.proofs.parse.lidata.Goals as goal

pub overflow_sub-result : goal.overflow_sub-result
overflow_sub-result g c =
    refused_within c.args.bytes.now c.in-Err-Refused.bad.now
    (rw c.in-Err-Refused.field-0-is at c.in-Err-Refused.ensures.reads)

pub returns-in-Err-Refused : goal.returns-in-Err-Refused
returns-in-Err-Refused g c =
    lidata_fault c.args.bytes.now c.in-Err-Refused.bad.now
    (rw c.in-Err-Refused.field-0-is at c.in-Err-Refused.ensures.reads)
