-- What each argument takes that both command lines have.
use Rattle.std.specs.Prelude.{true, Some, codes}
use Rattle.clap.specs.Words.{Rule, Text, new_rule}
use Rattle.clap.specs.Lexer.{usize_max}
use Rattle.clap.specs.declared.builder.action.ArgAction.TheVariants.{SetTrue}

-- a flag by its name, `--NAME`, whose value is true where it is given and else false
abbrev pub flag_rule : Text → Rule
flag_rule name = record (new_rule name) { long = Some name; action = Some SetTrue }

-- `--ignore-case`
abbrev pub case_rule : Rule
case_rule = flag_rule (codes "ignore-case")

-- the map that is written, a value that may be missing: `-m MAP`
abbrev pub map_rule : Rule
map_rule = record (new_rule (codes "MAP")) { short = Some 109 }

-- one or more files
abbrev pub files_rule : Rule
files_rule = record (new_rule (codes "FILES")) {
  required = true;
  range = Some (record { start_inclusive = 1; end_inclusive = usize_max });
}
