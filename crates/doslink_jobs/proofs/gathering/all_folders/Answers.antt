use Rattle.std.proofs.Common.{◌++◌, ap, ◌∙◌}
use Rattle.std.proofs.lemmas.List.{map-append}
use Rattle.doslink_words.specs.Tokens.{texts}
use Rattle.doslink_jobs.proofs.gathering.all_folders.Goals as goal

pub returns : goal.returns
returns g c =
    let others = c.args.others.now in
    ap texts (c.in_ok-extend_from_slice.ensures.items
    ∙ ap (λ l. l ++ others) (c.in_ok-folders.ensures.items ∙ c.deref.ensures.value))
    ∙ map-append (λ s. s.now) c.args.job.now.folders.items others
