use Rattle.std.proofs.Common.{map, ap, subst, ◌∙◌}
use Rattle.doslink_files.specs.Files.{AreSought, contents}
use Rattle.doslink_words.specs.Tokens.{texts}
use Rattle.doslink_jobs.specs.Jobs.{library_folders, sought_of}
use Rattle.doslink_jobs.proofs.gathering.given_files.Goals as goal

pub returns-in-Ok-clause-files : goal.returns-in-Ok-clause-files
returns-in-Ok-clause-files g c =
    let told = g.W.World.bytes c.args.world.now in
    let files = contents c.in-Ok.files.items in
    let job = c.args.job.now in
    let all = library_folders (texts c.args.folders.now) job in
    subst (λ s. AreSought told (texts job.object_folders.items) all s files)
    (c.deref-4.ensures.value ∙ c.in_ok-sought.ensures ∙ ap (map sought_of) c.deref.ensures.value)
    (subst (λ fs. AreSought told (texts job.object_folders.items) fs c.deref-4.result.now files)
    (ap texts c.deref-3.ensures.value ∙ c.in_ok-everywhere.ensures)
    (subst (λ fs. AreSought told (texts fs) (texts c.deref-3.result.now) c.deref-4.result.now files)
    c.deref-2.ensures.value c.in-Ok.ensures.told))
