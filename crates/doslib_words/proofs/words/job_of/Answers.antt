use Rattle.clap.specs.Words.{found_of, rows_of}
use Rattle.doslib_words.proofs.WordsValues.{add_values, compare_values, delete_values, extract_values, list_values}
use Rattle.doslib_words.proofs.WordsValues.{make_values, match_values, names_values, one_of_all, program_values}
use Rattle.doslib_words.proofs.WordsValues.{replace_values, show_values}
use Rattle.doslib_words.proofs.words.job_of.Goals as goal

pub values_of-requires : goal.values_of-requires
values_of-requires c = list_values c.args.name.now (rows_of (found_of c.args.values.now)) c.requires c.in-list.is

pub values_of-requires-in-show : goal.values_of-requires-in-show
values_of-requires-in-show c =
    show_values c.args.name.now (rows_of (found_of c.args.values.now)) c.requires c.in-show.is

pub program_job-requires : goal.program_job-requires
program_job-requires c =
    program_values c.args.name.now (rows_of (found_of c.args.values.now)) c.requires c.in-program.is

pub match_job-requires-clause-program : goal.match_job-requires-clause-program
match_job-requires-clause-program c =
    (match_values c.args.name.now (rows_of (found_of c.args.values.now)) c.requires c.in-match.is).0

pub match_job-requires-clause-files : goal.match_job-requires-clause-files
match_job-requires-clause-files c =
    (match_values c.args.name.now (rows_of (found_of c.args.values.now)) c.requires c.in-match.is).1

pub compare_job-requires-clause-program : goal.compare_job-requires-clause-program
compare_job-requires-clause-program c =
    (compare_values c.args.name.now (rows_of (found_of c.args.values.now)) c.requires c.in-compare.is).0

pub compare_job-requires-clause-other : goal.compare_job-requires-clause-other
compare_job-requires-clause-other c =
    (compare_values c.args.name.now (rows_of (found_of c.args.values.now)) c.requires c.in-compare.is).1

pub compare_job-requires-clause-files : goal.compare_job-requires-clause-files
compare_job-requires-clause-files c =
    (compare_values c.args.name.now (rows_of (found_of c.args.values.now)) c.requires c.in-compare.is).2

pub names_job-requires : goal.names_job-requires
names_job-requires c = names_values c.args.name.now (rows_of (found_of c.args.values.now)) c.requires c.in-names.is

pub needed-requires : goal.needed-requires
needed-requires c =
    (make_values c.args.name.now (rows_of (found_of c.args.values.now)) c.requires c.in-make.is).0

pub values_of-requires-in-make : goal.values_of-requires-in-make
values_of-requires-in-make c =
    (make_values c.args.name.now (rows_of (found_of c.args.values.now)) c.requires c.in-make.is).1

pub needed-requires-in-add : goal.needed-requires-in-add
needed-requires-in-add c =
    (add_values c.args.name.now (rows_of (found_of c.args.values.now)) c.requires c.in-add.is).0

pub values_of-requires-in-add : goal.values_of-requires-in-add
values_of-requires-in-add c =
    (add_values c.args.name.now (rows_of (found_of c.args.values.now)) c.requires c.in-add.is).1

pub needed-requires-in-delete : goal.needed-requires-in-delete
needed-requires-in-delete c =
    (delete_values c.args.name.now (rows_of (found_of c.args.values.now)) c.requires c.in-delete.is).0

pub values_of-requires-in-delete : goal.values_of-requires-in-delete
values_of-requires-in-delete c =
    (delete_values c.args.name.now (rows_of (found_of c.args.values.now)) c.requires c.in-delete.is).1

pub needed-requires-in-replace : goal.needed-requires-in-replace
needed-requires-in-replace c =
    (replace_values c.args.name.now (rows_of (found_of c.args.values.now)) c.requires c.in-replace.is).0

pub values_of-requires-in-replace : goal.values_of-requires-in-replace
values_of-requires-in-replace c =
    (replace_values c.args.name.now (rows_of (found_of c.args.values.now)) c.requires c.in-replace.is).1

pub needed-requires-in-extract : goal.needed-requires-in-extract
needed-requires-in-extract c =
    (extract_values c.args.name.now (rows_of (found_of c.args.values.now)) c.requires c.in-extract.is).0

pub values_of-requires-in-extract : goal.values_of-requires-in-extract
values_of-requires-in-extract c =
    (extract_values c.args.name.now (rows_of (found_of c.args.values.now)) c.requires c.in-extract.is).1

pub unreachable-requires : goal.unreachable-requires
unreachable-requires c =
    one_of_all c.args.name.now (rows_of (found_of c.args.values.now)) c.requires c.in_default.not-list
    c.in_default.not-show c.in_default.not-program c.in_default.not-match c.in_default.not-compare
    c.in_default.not-names c.in_default.not-make c.in_default.not-add c.in_default.not-delete
    c.in_default.not-replace c.in_default.not-extract
