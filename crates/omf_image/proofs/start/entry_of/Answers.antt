use Rattle.omf_image.proofs.Meaning.{start_lacks}
use Rattle.omf_image.proofs.start.entry_of.Goals as goal

pub returns-in_err-resolved : goal.returns-in_err-resolved
returns-in_err-resolved g c = start_lacks _ _ _ c.from_residual.ensures.1 c.in_err-resolved.ensures
