use Rattle.omf_frame.proofs.read_source.ReadSourceSource.read_some.Goals as goal

pub returns-in-Ok-clause-taken : goal.returns-in-Ok-clause-taken
returns-in-Ok-clause-taken g c = c.in-Ok.ensures.bytes.0

pub returns-in-Ok-clause-end : goal.returns-in-Ok-clause-end
returns-in-Ok-clause-end g c = c.in-Ok.ensures.bytes.1
