use Rattle.std.proofs.Common.{◌++◌, map, take}
use Rattle.omf_frame.specs.Lending.{plain_frame}
use Rattle.omf_record.specs.View.{view}
use Rattle.omf_plain.specs.Modules.{placed}
use Rattle.omf_plain.proofs.Adding.{held_more, item_takable, refused_more}
use Rattle.omf_plain.proofs.modules.add_all.Goals as goal

pub add-requires : goal.add-requires
add-requires g c =
    item_takable (λ r. view r) c.args.records.now c.loop-record.record-index c.record-item.result c.loop-record-test.true
    c.record-item.is c.requires

pub returns-in-Err : goal.returns-in-Err
returns-in-Err g c =
    let f = plain_frame c.args.frame.now in
    let front = placed f (map view (take c.loop-record.record-index c.args.records.now)) in
    λ before h. rw c.adding_fault.ensures
    (refused_more g.row.A.Denot (Unit {0}) (λ r. view r) c.args.records.now c.loop-record.record-index c.record-item.result
    c.loop-record-test.true c.record-item.is before f c.loop-record.builder c.add.new.self c.in-Err.fault
    (c.loop-record.invariant before h)
    (c.in-Err.ensures (before ++ front) f.body (c.loop-record.invariant before h)))

pub loop-record-preserved : goal.loop-record-preserved
loop-record-preserved g c =
    let f = plain_frame c.args.frame.now in
    let front = placed f (map view (take c.loop-record.record-index c.args.records.now)) in
    λ before h. held_more (λ r. view r) c.args.records.now c.loop-record.record-index c.record-item.result
    c.loop-record-test.true c.record-item.is before f c.add.new.self
    (c.in-Ok.ensures (before ++ front) f.body (c.loop-record.invariant before h))
