use Rattle.omf_codec.specs.inside.Heads.{by_head_splits}
use Rattle.omf_wide.specs.inside.References.{ByFixData}
use Rattle.omf_wide.proofs.fixups.WideReferenceMadeWideReferenceParts.parts.Goals as goal

pub returns : goal.returns
returns g c = λ n. rw c.wide_reference_parts.ensures (by_head_splits (ByFixData _) c.args.item.now)
