use Rattle.std.proofs.Common.{rules}
use Rattle.omf_library.specs.Listed.{listed_in}
use Rattle.omf_library.proofs.names.push_listed.Goals as goal

pub returns-in_default : goal.returns-in_default
unfolding listed_in
returns-in_default g c = search rules
