use Rattle.std.proofs.lemmas.List.{take_rest}
use Rattle.omf_library.proofs.Told.{content_at}
use Rattle.omf_library.proofs.archive.entry_at.Goals as goal

pub returns-in-Ok-clause-content : goal.returns-in-Ok-clause-content
returns-in-Ok-clause-content c =
    let content = c.in-Ok.ensures.content in
    content_at c.args.file.now c.args.place c.in-Ok.entry c.requires
    (rw (take_rest c.args.file.now c.args.place) at content)
