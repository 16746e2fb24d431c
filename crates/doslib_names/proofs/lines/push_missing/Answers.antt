use Rattle.std.proofs.Common.{rules, ◌<◌, length, map}
use Rattle.omf_search.specs.Results.{wanted_said}
use Rattle.doslib_text.proofs.Texts.{all-more, all-said}
use Rattle.doslib_names.specs.Lines.{missing_text}
use Rattle.doslib_names.specs.Said.{held_said}
use Rattle.doslib_names.proofs.lines.push_missing.Goals as goal

pub loop-wanted-preserved : goal.loop-wanted-preserved
loop-wanted-preserved g c =
    let here : c.loop-wanted.wanted-index < length c.args.missing.now = search rules in
    all-more (λ w. missing_text (map held_said c.args.modules.now) (wanted_said w)) c.args.missing.now
    c.loop-wanted.wanted-index _ c.loop-wanted.text.items _ _ here c.in_ok-push_missing_one.ensures
    c.loop-wanted.invariant

pub returns : goal.returns
returns g c =
    all-said (missing_text (map held_said c.args.modules.now)) wanted_said c.args.missing.now
    c.loop-wanted.wanted-index c.loop-wanted.text.items c.args.text.now.items c.loop-wanted-test.false
    c.loop-wanted.invariant
