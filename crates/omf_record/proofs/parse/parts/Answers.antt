use Rattle.omf_record.proofs.Faults.{body_fault}
use Rattle.omf_record.proofs.parse.parts.Goals as goal

pub returns-in-Err-Text : goal.returns-in-Err-Text
returns-in-Err-Text g c =
    body_fault c.args.kind (g.P.Codec.format 0) c.requires c.args.bytes.now c.in-Err-Text.at
    (rw c.in-Err-Text.field-0-is at c.in-Err-Text.ensures)
