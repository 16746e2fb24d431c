use Rattle.std.proofs.Common.{true}
use Rattle.omf_wide.specs.inside.References.{reference_text}
use Rattle.omf_wide.proofs.EndParts.{end_make}
use Rattle.omf_wide.proofs.ends.WideEndMadeWideEndParts.make.Goals as goal

pub returns : goal.returns
returns g c = λ text l. end_make _ (reference_text true) c.args.parts _ text c.end_of.ensures l
