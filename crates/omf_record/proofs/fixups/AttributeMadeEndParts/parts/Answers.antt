use Rattle.omf_codec.specs.inside.Heads.{by_head_splits}
use Rattle.omf_record.specs.Body.{ReferenceText}
use Rattle.omf_record.specs.Canonical.{reference}
use Rattle.omf_record.specs.inside.Ends.{ByAttribute}
use Rattle.omf_record.proofs.fixups.AttributeMadeEndParts.parts.Goals as goal

pub returns : goal.returns
returns c = λ n. rw c.end_byte.ensures (by_head_splits (ByAttribute ReferenceText reference) c.args.item.now)
