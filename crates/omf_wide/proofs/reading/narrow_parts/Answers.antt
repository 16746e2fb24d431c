use Rattle.omf_wide.proofs.Faults.{body_at}
use Rattle.omf_wide.proofs.reading.narrow_parts.Goals as goal

pub returns-in-Err-Text : goal.returns-in-Err-Text
returns-in-Err-Text g c =
    body_at (g.N.Codec.format 0) (g.W.Codec.format 0) c.args.kind c.requires.narrow c.requires.wide c.args.bytes.now
    c.in-Err-Text.at (rw c.in-Err-Text.field-0-is at c.in-Err-Text.ensures) c.fault_at.result c.fault_at.ensures
