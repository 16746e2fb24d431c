use Rattle.doslib_jobs.proofs.Finding.{stands_behind}
use Rattle.doslib_jobs.proofs.program.find_program.Goals as goal

pub returns : goal.returns
returns g c = (
  c.in_ok-program.ensures.exact,
  stands_behind c.args.bytes.now c.read_mz.new.source.rest.now c.in_ok-program.program c.in_ok-program.ensures.exact
      c.in_ok-program.ensures.stands,
)
