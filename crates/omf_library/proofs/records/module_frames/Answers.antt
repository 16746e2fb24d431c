use Rattle.std.proofs.Common.{◌≡◌, ◌+◌, ◌∙◌, length, sym, arith}
use Rattle.omf_library.proofs.Walking.{frames_first, frames_last, frames_more, frames_stop}
use Rattle.omf_library.proofs.records.module_frames.Goals as goal

pub loop-frame-init : goal.loop-frame-init
loop-frame-init g c = frames_first c.args.bytes.now c.in_ok-frames.frames.items c.in_ok-frames.ensures.items

pub returns-in_default : goal.returns-in_default
returns-in_default g c =
    frames_stop c.args.bytes.now c.loop-frame.place _ c.record_at.result c.loop-frame.invariant c.record_at.ensures.said
    (λ f e. c.in_default.not-Ok f e)

pub returns-then-ends_module : goal.returns-then-ends_module
returns-then-ends_module g c =
    frames_last c.args.bytes.now c.loop-frame.place c.loop-frame.frames.items _ c.in-Ok.frame c.loop-frame.invariant
    c.in_ok-push.ensures.items c.in-Ok.ensures.said
    (sym c.ends_module.ensures ∙ c.if-ends_module.true) (omega (arith, c.in-Ok.ensures.within))

pub loop-frame-preserved : goal.loop-frame-preserved
loop-frame-preserved g c =
    let frame = c.in-Ok.frame in
    let place = c.loop-frame.place in
    let next = place + (length frame.body.now + 4) in
    let here : next ≡ frame.place + (length frame.body.now + 4) = omega (arith, c.in-Ok.ensures.place) in
    frames_more c.args.bytes.now place next c.loop-frame.frames.items _ frame c.loop-frame.invariant
    c.in_ok-push.ensures.items c.in-Ok.ensures.said
    (sym c.ends_module.ensures ∙ c.if-ends_module.false) here c.in-Ok.ensures.within (omega arith)
