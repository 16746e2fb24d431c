use Rattle.omf_codec.specs.inside.Heads.{by_head_make}
use Rattle.omf_record.specs.inside.References.{ByFixData}
use Rattle.omf_record.proofs.fixups.ReferenceMadeReferenceParts.make.Goals as goal

pub returns : goal.returns
returns c = λ text l. rw c.reference_of.ensures (by_head_make ByFixData c.args.parts text l)
