use Rattle.std.proofs.Common.{rules, ◌<◌, length}
use Rattle.omf_match.specs.Told.{hit_lines}
use Rattle.omf_match.proofs.Texts.{all-more, all-done}
use Rattle.omf_match.proofs.told.Shown.push_fixups.Goals as goal

pub loop-fixup-preserved : goal.loop-fixup-preserved
loop-fixup-preserved g c =
    let fixups = c.args.record.now.fixups.now in
    let here : c.loop-fixup.fixup-index < length fixups = search rules in
    all-more (hit_lines c.args.self.now.from.now c.args.self.now.image.now c.args.start c.args.record.now.places.now)
    fixups c.loop-fixup.fixup-index _
    c.loop-fixup.lines.items _ _ here c.in_ok-push_hits.ensures c.loop-fixup.invariant

pub returns : goal.returns
returns g c =
    all-done (hit_lines c.args.self.now.from.now c.args.self.now.image.now c.args.start c.args.record.now.places.now)
    c.args.record.now.fixups.now c.loop-fixup.fixup-index
    c.loop-fixup.lines.items _ c.loop-fixup-test.false c.loop-fixup.invariant
