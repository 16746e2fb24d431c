use Rattle.omf_module.proofs.Only.{only_module, only_fault}
use Rattle.omf_module.proofs.reading.read_module.Goals as goal

pub returns-clause-whole : goal.returns-clause-whole
returns-clause-whole g c =
    λ rs bytes rest h e. only_module rs bytes rest _ _ c.read_records.result h e c.read_records.ensures.reads

pub returns-clause-fault : goal.returns-clause-fault
returns-clause-fault g c =
    λ bytes place f h e. only_fault bytes place f _ _ c.read_records.result h e c.read_records.ensures.reads
