use Rattle.flat_file.specs.Com.{loaded}
use Rattle.flat_file.specs.Forms.{com_bytes}
use Rattle.flat_file.proofs.Locating.{com_is_loaded, com_is_located}
use Rattle.flat_file.proofs.laws.com_loads_as_written.Goals as goal

pub returns : goal.returns
returns c = λ layout modules p of is none psp fits. (
  loaded psp (com_bytes p),
  com_is_loaded layout modules p of is none psp fits,
  com_is_located layout modules p of is none psp fits,
)
