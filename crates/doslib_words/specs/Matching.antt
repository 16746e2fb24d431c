-- The words of `match`: a program, and the files whose modules are looked for in it.
use Rattle.std.specs.Prelude.{true, codes}
use Rattle.clap.specs.Words.{App, Rule, new_app, new_rule, with_rule}
use Rattle.command_line.specs.Rules.{files_rule}

-- the program's file, a value that has to be there
abbrev pub program_rule : Rule
program_rule = record (new_rule (codes "PROGRAM")) { required = true }

-- `match PROGRAM FILES..`
abbrev pub match_command : App
match_command = with_rule (with_rule (new_app (codes "match")) program_rule) files_rule
