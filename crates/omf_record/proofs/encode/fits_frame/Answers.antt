use Rattle.std.proofs.Common.{rules}
use Rattle.omf_record.proofs.encode.fits_frame.Goals as goal

pub returns : goal.returns
returns g c = search rules
