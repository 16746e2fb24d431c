use Rattle.std.proofs.Common.{rules, ◌<◌, length}
use Rattle.doslib_text.proofs.Texts.{all-done, all-more}
use Rattle.doslib_show.specs.inside.Parts.{plain_names}
use Rattle.doslib_show.proofs.rows.push_rows.Goals as goal

pub loop-item-preserved : goal.loop-item-preserved
loop-item-preserved g c =
    let here : c.loop-item.item-index < length c.args.items.now = search rules in
    all-more (g.T.Row.text (plain_names c.args.names.now)) c.args.items.now c.loop-item.item-index c.item-item.result
    c.loop-item.lines.items _ _ here (rw (← c.item-item.is) c.in_ok-push.ensures) c.loop-item.invariant

pub returns : goal.returns
returns g c =
    all-done (g.T.Row.text (plain_names c.args.names.now)) c.args.items.now c.loop-item.item-index
    c.loop-item.lines.items _ c.loop-item-test.false c.loop-item.invariant
