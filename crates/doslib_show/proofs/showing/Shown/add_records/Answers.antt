use Rattle.std.proofs.Common.{◌<◌, length, rules}
use Rattle.doslib_show.proofs.Reading.{reads-all, reads-more, reads-none}
use Rattle.doslib_show.proofs.showing.Shown.add_records.Goals as goal

pub loop-frame-init : goal.loop-frame-init
loop-frame-init g c = reads-none _ _ _ _ c.new-names.ensures

pub loop-frame-preserved : goal.loop-frame-preserved
loop-frame-preserved g c =
    let here : c.loop-frame.frame-index < length c.args.frames.now = search rules in
    reads-more _ _ c.args.frames.now c.loop-frame.frame-index c.frame-item.result _ _ _ _ _ here
    c.loop-frame.invariant (rw (← c.frame-item.is) c.in_ok-add_record.ensures)

pub returns : goal.returns
returns g c =
    reads-all _ _ c.args.frames.now c.loop-frame.frame-index _ _ _ c.loop-frame-test.false c.loop-frame.invariant
