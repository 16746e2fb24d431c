use Rattle.omf_commands.proofs.Exclusive.{exclusive}
use Rattle.omf_commands.proofs.Same.{one_modules_fault, same_told}
use Rattle.omf_commands.proofs.linking.file_or_fault.Goals as goal

pub returns-clause-exclusive : goal.returns-clause-exclusive
returns-clause-exclusive g c = λ names modules file fault made stands. exclusive names modules file fault made stands

pub returns-clause-one_fault : goal.returns-clause-one_fault
returns-clause-one_fault g c =
    λ names modules fault other stands also. one_modules_fault names modules fault other stands also

pub returns-clause-told : goal.returns-clause-told
returns-clause-told g c = λ fault other same. same_told fault other same
