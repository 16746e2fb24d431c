use Rattle.std.proofs.Common.{rules, ◌<◌, length, map}
use Rattle.doslib_text.proofs.Texts.{all-more, all-said}
use Rattle.doslib_names.specs.Lines.{doubled_line}
use Rattle.doslib_names.specs.Said.{held_said}
use Rattle.doslib_names.specs.inside.First.{doubled_said}
use Rattle.doslib_names.proofs.lines.push_doubled.Goals as goal

pub loop-name-preserved : goal.loop-name-preserved
loop-name-preserved g c =
    let here : c.loop-name.name-index < length c.args.doubled.now = search rules in
    all-more (λ d. doubled_line (map held_said c.args.modules.now) (doubled_said d)) c.args.doubled.now
    c.loop-name.name-index _ c.loop-name.text.items _ _ here c.in_ok-push_doubled_name.ensures c.loop-name.invariant

pub returns : goal.returns
returns g c =
    all-said (doubled_line (map held_said c.args.modules.now)) doubled_said c.args.doubled.now
    c.loop-name.name-index c.loop-name.text.items c.args.text.now.items c.loop-name-test.false c.loop-name.invariant
