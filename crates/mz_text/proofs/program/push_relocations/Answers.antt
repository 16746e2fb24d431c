use Rattle.std.proofs.Common.{rules, ◌<◌, length}
use Rattle.mz_text.specs.Program.{relocation_line}
use Rattle.mz_text.proofs.Texts.{all-more, all-done}
use Rattle.mz_text.proofs.program.push_relocations.Goals as goal

pub loop-entry-preserved : goal.loop-entry-preserved
loop-entry-preserved g c =
    let here : c.loop-entry.entry-index < length c.args.entries.now = search rules in
    all-more (relocation_line c.args.image.now) c.args.entries.now c.loop-entry.entry-index _
    c.loop-entry.lines.items _ _ here c.in_ok-push_relocation.ensures c.loop-entry.invariant

pub returns : goal.returns
returns g c =
    all-done (relocation_line c.args.image.now) c.args.entries.now c.loop-entry.entry-index
    c.loop-entry.lines.items _ c.loop-entry-test.false c.loop-entry.invariant
