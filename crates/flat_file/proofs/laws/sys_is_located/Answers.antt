use Rattle.flat_file.proofs.Locating as locating
use Rattle.flat_file.proofs.laws.sys_is_located.Goals as goal

pub returns : goal.returns
returns c = λ layout modules p of is none P. locating.sys_is_located layout modules p of is none P
