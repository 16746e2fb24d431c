-- The words of the commands that make and change libraries, and of that which lists names.
use Rattle.std.specs.Prelude.{◌≡◌, ◌≤◌, true, List, length, Some, codes}
use Rattle.std.specs.Borrow.{Bor}
use Rattle.clap.specs.Words.{App, Row, Rule, Text, all_of, new_app, new_rule, with_rule, with_subcommand}
use Rattle.clap.specs.Lexer.{usize_max}
use Rattle.command_line.specs.Rules.{case_rule, files_rule}
use Rattle.command_line.specs.Values.{texts}

-- the library, a value that has to be there
abbrev pub library_rule : Rule
library_rule = record (new_rule (codes "LIB")) { required = true }

-- one or more names of members
abbrev pub members_rule : Rule
members_rule = record (new_rule (codes "MEMBERS")) {
  required = true;
  range = Some (record { start_inclusive = 1; end_inclusive = usize_max });
}

-- `NAME LIB FILES..`, or with members in place of files
abbrev pub library_command : (name : Text) → (values : Rule) → App
library_command name values = with_rule (with_rule (new_app name) library_rule) values

-- a command with those that make and change libraries, and that which takes members out of one
abbrev pub with_changes : App → App
with_changes command =
    let making = with_subcommand command (library_command (codes "make") files_rule).top in
    let adding = with_subcommand making (library_command (codes "add") files_rule).top in
    let deleting = with_subcommand adding (library_command (codes "delete") members_rule).top in
    let replacing = with_subcommand deleting (library_command (codes "replace") files_rule).top in
    with_subcommand replacing (library_command (codes "extract") members_rule).top

-- `names [--ignore-case] FILES..`
abbrev pub names_command : App
names_command = with_rule (with_rule (new_app (codes "names")) case_rule) files_rule

-- these are the values of an argument, one at least
abbrev pub AreValues : (id : Text) → List Row → List (Bor Text) → Type 0
AreValues id rows values = (all_of id rows ≡ Some (texts values)) × (1 ≤ length values)
