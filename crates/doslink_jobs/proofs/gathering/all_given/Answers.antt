use Rattle.doslink_files.specs.Files.{contents}
use Rattle.doslink_jobs.proofs.gathering.all_given.Goals as goal

pub returns-clause-files : goal.returns-clause-files
returns-clause-files g c = (
  contents c.in_ok-files.files.items,
  c.in_ok-files.ensures.files,
  c.in_ok-push_names_file.ensures,
)
