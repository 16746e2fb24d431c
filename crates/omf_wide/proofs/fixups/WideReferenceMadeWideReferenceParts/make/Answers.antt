use Rattle.omf_codec.specs.inside.Heads.{by_head_make}
use Rattle.omf_wide.specs.inside.References.{ByFixData}
use Rattle.omf_wide.proofs.fixups.WideReferenceMadeWideReferenceParts.make.Goals as goal

pub returns : goal.returns
returns g c = λ text l. rw c.wide_reference_of.ensures (by_head_make (ByFixData _) c.args.parts text l)
