use Rattle.std.proofs.Common.{rules, ◌<◌, length}
use Rattle.doslib_text.proofs.Texts.{all-done, all-more}
use Rattle.doslib_show.specs.inside.Parts.{part_text, plain_names}
use Rattle.doslib_show.proofs.parts.push_parts.Goals as goal

pub loop-part-preserved : goal.loop-part-preserved
loop-part-preserved g c =
    let here : c.loop-part.part-index < length c.args.parts.now = search rules in
    all-more (part_text (plain_names c.args.names.now)) c.args.parts.now c.loop-part.part-index _
    c.loop-part.lines.items _ _ here c.in_ok-push_part.ensures c.loop-part.invariant

pub returns : goal.returns
returns g c =
    all-done (part_text (plain_names c.args.names.now)) c.args.parts.now c.loop-part.part-index
    c.loop-part.lines.items _ c.loop-part-test.false c.loop-part.invariant
