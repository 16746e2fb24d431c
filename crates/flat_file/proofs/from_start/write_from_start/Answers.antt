use Rattle.std.proofs.Common.{◌∙◌, sym}
use Rattle.flat_file.specs.Forms.{com_bytes, com_fault, one_segment_fault, starts_at_0, sys_bytes}
use Rattle.flat_file.proofs.Refusing.{of_first, of_second}
use Rattle.flat_file.proofs.from_start.write_from_start.Goals as goal

pub returns-then-starts_at_0 : goal.returns-then-starts_at_0
returns-then-starts_at_0 g c =
    let p = c.args.program.now in
    of_first {X = Unit {0}} g.K.Sink.written g.K.Sink.failures c.args.sink.now c.write_segment.new.sink
    c.write_segment.result (one_segment_fault c.args.layout.now c.args.modules.now p)
    (com_fault c.args.layout.now c.args.modules.now p) (sys_bytes p) (com_bytes p) (starts_at_0 p)
    (sym c.starts_at_0.ensures ∙ c.if-starts_at_0.true) c.write_segment.ensures

pub returns-else-starts_at_0 : goal.returns-else-starts_at_0
returns-else-starts_at_0 g c =
    let p = c.args.program.now in
    of_second {X = Unit {0}} g.K.Sink.written g.K.Sink.failures c.args.sink.now c.write_com.new.sink
    c.write_com.result (one_segment_fault c.args.layout.now c.args.modules.now p)
    (com_fault c.args.layout.now c.args.modules.now p) (sys_bytes p) (com_bytes p) (starts_at_0 p)
    (sym c.starts_at_0.ensures ∙ c.if-starts_at_0.false) c.write_com.ensures
