-- The command line: what each subcommand takes, and which job its values are.
use Rattle.std.specs.Prelude.{◌≡◌, ⊤, true, List, Some, IsSomeAnd, codes}
use Rattle.std.specs.Borrow.{Bor}
use Rattle.clap.specs.Words.{App, Row, Text, first_of, new_app, subcommand_of, takes, with_rule, with_subcommand}
use Rattle.command_line.specs.Rules.{files_rule}
pub use Rattle.command_line.specs.Values.{IsFlag, texts}
use Rattle.command_line.specs.declared.words_fault.WordsFault.{WordsFault}
use Rattle.command_line.specs.declared.words_fault.WordsFault.TheVariants.{Help, Wrong, Memory}
use Rattle.doslib_words.specs.declared.words.Job.{Job}
use Rattle.doslib_words.specs.declared.words.Job.TheVariants.{List as ListJob, Show as ShowJob, Program as ProgramJob}
use Rattle.doslib_words.specs.declared.words.Job.TheVariants.{Match as MatchJob, Compare, Names, Make, Add}
use Rattle.doslib_words.specs.declared.words.Job.TheVariants.{Delete, Replace, Extract}
use Rattle.doslib_words.specs.Comparing.{compare_command}
use Rattle.doslib_words.specs.Libraries.{AreValues, names_command, with_changes}
use Rattle.doslib_words.specs.Matching.{match_command}
use Rattle.doslib_words.specs.Program.{HasWrongPlace, IsImageOf, program_command}

-- `NAME FILES..`
abbrev pub files_command : Text → App
files_command name = with_rule (new_app name) files_rule

-- the command before it has its subcommands, one of which has to follow it
abbrev pub bare_command : App
bare_command =
    let app = new_app (codes "doslib") in
    record app {
      top = record app.top {
        no_binary_name = true;
        subcommand_required = true;
        arg_required_else_help = true;
        has_version = true;
      };
    }

-- the command `doslib`
unfoldable pub doslib_command : App
doslib_command =
    let listing = with_subcommand bare_command (files_command (codes "list")).top in
    let showing = with_subcommand listing (files_command (codes "show")).top in
    let programs = with_subcommand showing program_command.top in
    let matching = with_subcommand programs match_command.top in
    let comparing = with_subcommand matching compare_command.top in
    with_changes (with_subcommand comparing names_command.top)

-- these are the files of a subcommand with these values, one at least
abbrev pub AreFiles : List Row → List (Bor Text) → Type 0
AreFiles rows files = AreValues (codes "FILES") rows files

-- this is the library of one, and the files or members with it
abbrev pub AreForLibrary : List Row → (library : Bor Text) → (id : Text) → List (Bor Text) → Type 0
AreForLibrary rows library id values =
    (first_of (codes "LIB") rows ≡ Some library.now) × AreValues id rows values

-- `job` is what these values of the subcommand `name` ask for
abbrev pub IsJobOf : Text → List Row → Job → Type 0
IsJobOf name rows (ListJob files) = (name ≡ codes "list") × AreFiles rows files.items
IsJobOf name rows (ShowJob files) = (name ≡ codes "show") × AreFiles rows files.items
IsJobOf name rows (ProgramJob file image) =
    (name ≡ codes "program") × (first_of (codes "FILE") rows ≡ Some file.now) × IsImageOf rows image
IsJobOf name rows (MatchJob program files) =
    (name ≡ codes "match") × (first_of (codes "PROGRAM") rows ≡ Some program.now) × AreFiles rows files.items
IsJobOf name rows (Compare program other files) =
    (name ≡ codes "compare") × (first_of (codes "PROGRAM") rows ≡ Some program.now)
    × (first_of (codes "OTHER") rows ≡ Some other.now) × AreFiles rows files.items
IsJobOf name rows (Names ignore_case files) =
    (name ≡ codes "names") × IsFlag (codes "ignore-case") rows ignore_case × AreFiles rows files.items
IsJobOf name rows (Make library files) = (name ≡ codes "make") × AreForLibrary rows library (codes "FILES") files.items
IsJobOf name rows (Add library files) = (name ≡ codes "add") × AreForLibrary rows library (codes "FILES") files.items
IsJobOf name rows (Delete library members) =
    (name ≡ codes "delete") × AreForLibrary rows library (codes "MEMBERS") members.items
IsJobOf name rows (Replace library files) =
    (name ≡ codes "replace") × AreForLibrary rows library (codes "FILES") files.items
IsJobOf name rows (Extract library members) =
    (name ≡ codes "extract") × AreForLibrary rows library (codes "MEMBERS") members.items

-- the command takes the words, and `job` is what its matches give for them
unfoldable pub IsJobFor : List Text → Job → Type 0
IsJobFor words job = (takes doslib_command words ≡ true)
    × IsSomeAnd (subcommand_of doslib_command words) (λ p. IsJobOf p.0 p.1 job)

-- words that the command takes are refused for nothing but a wrong paragraph of an image or want of memory
unfoldable pub IsRefusalFor : List Text → WordsFault → Type 0
IsRefusalFor words Memory = ⊤
IsRefusalFor words (Wrong text) =
    IsSomeAnd (subcommand_of doslib_command words) (λ p. (p.0 ≡ codes "program") × HasWrongPlace p.1)
IsRefusalFor words (Help text) = ⊥
