use Rattle.omf_text.specs.Details.{details}
use Rattle.omf_text.proofs.details.put_segment.Goals as goal

pub returns : goal.returns
unfolding details
returns g c = rw c.as_slice.ensures at c.put_each.ensures
