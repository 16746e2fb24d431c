use Rattle.std.proofs.Common.{◌<◌, length, refl, arith}
use Rattle.omf_frame.specs.Frame.{place_limit}
use Rattle.omf_frame.specs.Lending.{plain_frame}
use Rattle.omf_plain.proofs.Framing.{fault_there, frame_there, no_frame_there}
use Rattle.omf_plain.proofs.modules.frame_in.Goals as goal

pub returns-then-place-bytes-clause-frame : goal.returns-then-place-bytes-clause-frame
returns-then-place-bytes-clause-frame c =
    let early : c.args.place < place_limit = omega (arith, c.if-place-ge4294901760.false) in
    rw c.refused-then-place-bytes.ensures
    (refl, no_frame_there c.args.bytes.now c.args.place early (omega (arith, c.if-place-bytes.true)))

pub returns-in-Ok-clause-frame : goal.returns-in-Ok-clause-frame
returns-in-Ok-clause-frame c =
    let early : c.args.place < place_limit = omega (arith, c.if-place-ge4294901760.false) in
    frame_there c.args.bytes.now c.args.place (plain_frame c.in-Ok.frame) early c.in-Ok.ensures.said

pub returns-in-Err-clause-frame : goal.returns-in-Err-clause-frame
returns-in-Err-clause-frame c =
    let early : c.args.place < place_limit = omega (arith, c.if-place-ge4294901760.false) in
    let within : c.args.place < length c.args.bytes.now = omega (arith, c.requires, c.if-place-bytes.false) in
    rw (c.refused-in-Err.ensures, c.framing_fault.ensures)
    (refl, fault_there c.args.bytes.now c.args.place c.in-Err.fault early within c.in-Err.ensures.said)
