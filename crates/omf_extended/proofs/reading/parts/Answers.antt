use Rattle.omf_extended.proofs.Faults.{body_fault}
use Rattle.omf_extended.proofs.reading.parts.Goals as goal

pub returns-in-Err-Text : goal.returns-in-Err-Text
returns-in-Err-Text g c =
    body_fault (g.F.Codec.format 0) c.args.kind c.requires c.args.bytes.now c.in-Err-Text.at
    (rw c.in-Err-Text.field-0-is at c.in-Err-Text.ensures)
