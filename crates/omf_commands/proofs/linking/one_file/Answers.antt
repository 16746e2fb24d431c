use Rattle.omf_commands.proofs.OneFile.{same_file}
use Rattle.omf_commands.proofs.Said.{file_of_said, one_file_of_said}
use Rattle.omf_commands.proofs.Rewritten.{file_of_rewritten}
use Rattle.omf_commands.proofs.linking.one_file.Goals as goal

pub returns-clause-of_modules : goal.returns-clause-of_modules
returns-clause-of_modules c = λ names modules file other a b. same_file names modules file other a b

pub returns-clause-of_records : goal.returns-clause-of_records
returns-clause-of_records c =
    λ names lists others file other same a b. one_file_of_said names lists others file other same a b

pub returns-clause-shared : goal.returns-clause-shared
returns-clause-shared c = λ names lists others file same a. file_of_said names lists others file same a

pub returns-clause-rewritten : goal.returns-clause-rewritten
returns-clause-rewritten c = λ names lists inputs file are made. file_of_rewritten names lists inputs file are made
