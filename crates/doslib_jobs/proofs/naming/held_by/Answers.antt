use Rattle.std.proofs.Common.{rules, ◌<◌, ◌∙◌, ◌++◌, [], ap, length, map}
use Rattle.doslib_text.proofs.Texts.{all-more, all-said}
use Rattle.doslib_names.specs.Said.{held_said}
use Rattle.doslib_jobs.specs.Libraries.{held_in}
use Rattle.doslib_jobs.specs.inside.Libraries.{source_said}
use Rattle.doslib_jobs.proofs.naming.held_by.Goals as goal

pub loop-file-preserved : goal.loop-file-preserved
loop-file-preserved g c =
    let here : c.loop-file.file-index < length c.args.files.now = search rules in
    all-more (λ f. held_in (source_said f)) c.args.files.now c.loop-file.file-index c.file-item.result _ _ _ here
    (c.in_ok-push_held.ensures
    ∙ ap (λ f. map held_said c.loop-file.held.items ++ held_in (source_said f)) c.file-item.is)
    c.loop-file.invariant

pub returns : goal.returns
returns g c =
    all-said held_in source_said c.args.files.now c.loop-file.file-index _ [] c.loop-file-test.false
    c.loop-file.invariant
