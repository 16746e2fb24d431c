use Rattle.flat_file.proofs.Locating as locating
use Rattle.flat_file.proofs.Locating.{lies_around}
use Rattle.flat_file.proofs.laws.bin_is_located.Goals as goal

pub returns-clause-bytes : goal.returns-clause-bytes
returns-clause-bytes c = λ layout modules p of is P from. locating.bin_is_located layout modules p of is P from

pub returns-clause-covered : goal.returns-clause-covered
returns-clause-covered c = λ layout modules p of a h. lies_around layout modules p of a h

pub returns-clause-whole : goal.returns-clause-whole
returns-clause-whole c = λ layout modules p of is from none. locating.raw_is_whole layout modules p of is from none
