use Rattle.clap.specs.Words.{found_of, rows_of}
use Rattle.omf_words.proofs.WordsValues.{check_values, link_values, load_values, one_of_five, rewrite_values}
use Rattle.omf_words.proofs.WordsValues.{show_values}
use Rattle.omf_words.proofs.words.job_of.Goals as goal

pub value-requires : goal.value-requires
value-requires c = show_values c.args.name.now (rows_of (found_of c.args.values.now)) c.requires c.in-show.is

pub value-requires-in-check : goal.value-requires-in-check
value-requires-in-check c = check_values c.args.name.now (rows_of (found_of c.args.values.now)) c.requires c.in-check.is

pub value-requires-in-rewrite : goal.value-requires-in-rewrite
value-requires-in-rewrite c =
    (rewrite_values c.args.name.now (rows_of (found_of c.args.values.now)) c.requires c.in-rewrite.is).0

pub value-requires-in-rewrite-2 : goal.value-requires-in-rewrite-2
value-requires-in-rewrite-2 c =
    (rewrite_values c.args.name.now (rows_of (found_of c.args.values.now)) c.requires c.in-rewrite.is).1

pub link_job-requires-clause-out : goal.link_job-requires-clause-out
link_job-requires-clause-out c =
    (link_values c.args.name.now (rows_of (found_of c.args.values.now)) c.requires c.in-link.is).0

pub link_job-requires-clause-files : goal.link_job-requires-clause-files
link_job-requires-clause-files c =
    (link_values c.args.name.now (rows_of (found_of c.args.values.now)) c.requires c.in-link.is).1

pub load_job-requires-clause-file : goal.load_job-requires-clause-file
load_job-requires-clause-file c =
    (load_values c.args.name.now (rows_of (found_of c.args.values.now)) c.requires c.in-load.is).0

pub load_job-requires-clause-paragraph : goal.load_job-requires-clause-paragraph
load_job-requires-clause-paragraph c =
    (load_values c.args.name.now (rows_of (found_of c.args.values.now)) c.requires c.in-load.is).1

pub unreachable-requires : goal.unreachable-requires
unreachable-requires c =
    one_of_five c.args.name.now (rows_of (found_of c.args.values.now)) c.requires c.in_default.not-show
    c.in_default.not-check c.in_default.not-rewrite c.in_default.not-link c.in_default.not-load
