-- The words of `compare`: a program, the one that it is held against, and the files whose modules are looked for in it.
use Rattle.std.specs.Prelude.{true, codes}
use Rattle.clap.specs.Words.{App, Rule, new_app, new_rule, with_rule}
use Rattle.command_line.specs.Rules.{files_rule}
use Rattle.doslib_words.specs.Matching.{program_rule}

-- the other program's file, a value that has to be there
abbrev pub other_rule : Rule
other_rule = record (new_rule (codes "OTHER")) { required = true }

-- `compare PROGRAM OTHER FILES..`
abbrev pub compare_command : App
compare_command = with_rule (with_rule (with_rule (new_app (codes "compare")) program_rule) other_rule) files_rule
