use Rattle.omf_codec.specs.inside.Heads.{by_head_splits}
use Rattle.omf_record.specs.inside.References.{ByFixData}
use Rattle.omf_record.proofs.fixups.ReferenceMadeReferenceParts.parts.Goals as goal

pub returns : goal.returns
returns c = λ n. rw c.reference_parts.ensures (by_head_splits ByFixData c.args.item.now)
