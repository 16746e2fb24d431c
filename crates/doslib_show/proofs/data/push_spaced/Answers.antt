use Rattle.std.proofs.Common.{rules, ◌<◌, length}
use Rattle.doslib_show.specs.Data.{spaced}
use Rattle.doslib_text.proofs.Texts.{all-done, all-more}
use Rattle.doslib_show.proofs.data.push_spaced.Goals as goal

pub loop-byte-preserved : goal.loop-byte-preserved
loop-byte-preserved g c =
    let here : c.loop-byte.byte-index < length c.args.bytes.now = search rules in
    all-more spaced c.args.bytes.now c.loop-byte.byte-index _ c.loop-byte.lines.items _ _ here
    (rw c.as_slice.ensures at c.in_ok-push_pieces.ensures) c.loop-byte.invariant

pub returns : goal.returns
returns g c =
    all-done spaced c.args.bytes.now c.loop-byte.byte-index c.loop-byte.lines.items _ c.loop-byte-test.false
    c.loop-byte.invariant
