use Rattle.omf_frame.proofs.write_sink.WriteSinkSink.write_some.Goals as goal

pub returns-in-Ok-clause-appended : goal.returns-in-Ok-clause-appended
returns-in-Ok-clause-appended g c = c.in-Ok.ensures.bytes
