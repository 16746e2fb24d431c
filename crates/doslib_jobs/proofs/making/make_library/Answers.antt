use Rattle.doslib_jobs.proofs.Libraries.{made-so}
use Rattle.doslib_jobs.proofs.making.make_library.Goals as goal

pub returns : goal.returns
returns g c = made-so _ _ _ _ _ c.change_by.ensures
