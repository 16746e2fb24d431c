use Rattle.std.proofs.Common.{rules, ◌<◌, ◌∙◌, ◌++◌, ap, length}
use Rattle.omf_library.specs.Names.{texts}
use Rattle.omf_librarian.specs.Said.{doubled_said}
use Rattle.doslib_text.proofs.Texts.{all-more, all-said}
use Rattle.doslib_jobs.specs.LibraryLines.{doubled_line}
use Rattle.doslib_jobs.proofs.library_lines.push_doubled.Goals as goal

pub loop-name-preserved : goal.loop-name-preserved
loop-name-preserved g c =
    let here : c.loop-name.name-index < length c.args.doubled.now = search rules in
    all-more (λ d. doubled_line c.args.path.now (texts c.args.modules.now) (doubled_said d)) c.args.doubled.now
    c.loop-name.name-index c.name-item.result c.loop-name.lines.items _ _ here
    (c.in_ok-push_doubled_name.ensures
    ∙ ap (λ d. c.loop-name.lines.items
    ++ doubled_line c.args.path.now (texts c.args.modules.now) (doubled_said d)) c.name-item.is)
    c.loop-name.invariant

pub returns : goal.returns
returns g c =
    all-said (doubled_line c.args.path.now (texts c.args.modules.now)) doubled_said c.args.doubled.now
    c.loop-name.name-index c.loop-name.lines.items c.args.lines.now.items c.loop-name-test.false
    c.loop-name.invariant
