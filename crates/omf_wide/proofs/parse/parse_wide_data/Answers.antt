use Rattle.std.proofs.Common.{refl}
use Rattle.omf_wide.proofs.Layouts.{ledata_body}
use Rattle.omf_wide.proofs.parse.parse_wide_data.Goals as goal

pub read_whole-requires : goal.read_whole-requires
read_whole-requires g c κs = ((refl, tt), ledata_body.ending)
