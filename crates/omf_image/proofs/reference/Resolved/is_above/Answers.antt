use Rattle.std.proofs.Common.{rules}
use Rattle.omf_image.proofs.reference.Resolved.is_above.Goals as goal

pub returns : goal.returns
returns c = search rules
