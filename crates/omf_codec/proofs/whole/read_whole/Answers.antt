use Rattle.omf_codec.proofs.Faults.{refused, left_over}
use Rattle.omf_codec.proofs.whole.read_whole.Goals as goal

pub returns-in-Ok : goal.returns-in-Ok
returns-in-Ok g c =
    left_over (g.F.Codec.format 0) c.requires (g.met.F.Codec.lawful 0) c.args.bytes.now _ c.in-Ok.rest.now
    c.in-Ok.len_at_least c.in-Ok.ensures

pub returns-in-Err-Refused : goal.returns-in-Err-Refused
returns-in-Err-Refused g c =
    refused (g.F.Codec.format 0) c.requires (g.met.F.Blank.blank 0) c.args.bytes.now c.in-Err-Refused.bad.now
    (rw c.in-Err-Refused.field-0-is at c.in-Err-Refused.ensures)
