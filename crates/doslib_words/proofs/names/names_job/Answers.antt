use Rattle.std.proofs.Common.{codes, refl}
use Rattle.clap.specs.Words.{found_of}
use Rattle.command_line.proofs.Values.{flag_of}
use Rattle.doslib_words.proofs.names.names_job.Goals as goal

pub returns-clause-ok : goal.returns-clause-ok
returns-clause-ok c =
    let flag =
    flag_of (found_of c.args.values.now) (codes "ignore-case") c.get_flag.result c.get_flag.ensures.value
    c.get_flag.ensures.other c.get_flag.ensures.none in
    (refl, flag, c.in_ok-files.ensures.ok)
