-- The command line: what each subcommand takes, and which job its values are.
use Rattle.std.specs.Prelude.{◌≡◌, ◌≤◌, ◌<◌, ◌⊎◌, ⊤, true, List, length, Some, IsSomeAnd, option_map, codes, Ok}
use Rattle.std.specs.Int.{to_be_bytes, w16}
use Rattle.std.specs.List.{AllPass}
use Rattle.hex.specs.Hex.{decode_of, is_hex_digit}
use Rattle.clap.specs.Words.{App, Row, Rule, Text, all_of, first_of, new_app, new_rule, subcommand_of, takes}
use Rattle.clap.specs.Words.{with_rule, with_subcommand}
use Rattle.command_line.specs.Rules.{case_rule, files_rule, map_rule}
pub use Rattle.command_line.specs.Values.{IsFlag, texts}
use Rattle.command_line.specs.declared.words_fault.WordsFault.{WordsFault}
use Rattle.command_line.specs.declared.words_fault.WordsFault.TheVariants.{Help, Wrong, Memory}
use Rattle.omf_words.specs.declared.words.Job.{Job}
use Rattle.omf_words.specs.declared.words.Job.TheVariants.{Show, Check, Rewrite, Link, Load}

-- a value that has to be there
abbrev pub needed : Text → Rule
needed name = record (new_rule name) { required = true }

-- the program that is written: `-o OUT`
abbrev pub out_rule : Rule
out_rule = record (needed (codes "OUT")) { short = Some 111 }

-- `NAME FILE`
abbrev pub file_command : Text → App
file_command name = with_rule (new_app name) (needed (codes "FILE"))

-- `rewrite IN OUT`
abbrev pub rewrite_command : App
rewrite_command = with_rule (with_rule (new_app (codes "rewrite")) (needed (codes "IN"))) (needed (codes "OUT"))

-- `link -o OUT [-m MAP] [--ignore-case] FILES..`
abbrev pub link_command : App
link_command =
    with_rule (with_rule (with_rule (with_rule (new_app (codes "link")) out_rule) map_rule) case_rule) files_rule

-- `load FILE PARAGRAPH`
abbrev pub load_command : App
load_command = with_rule (with_rule (new_app (codes "load")) (needed (codes "FILE"))) (needed (codes "PARAGRAPH"))

-- the command before it has its subcommands, one of which has to follow it
abbrev pub bare_command : App
bare_command =
    let app = new_app (codes "omf") in
    record app {
      top = record app.top {
        no_binary_name = true;
        subcommand_required = true;
        arg_required_else_help = true;
        has_version = true;
      };
    }

-- the command `omf`
unfoldable pub omf_command : App
omf_command =
    with_subcommand (with_subcommand (with_subcommand (with_subcommand (with_subcommand bare_command
    (file_command (codes "show")).top) (file_command (codes "check")).top) rewrite_command.top) link_command.top)
    load_command.top

-- a paragraph: exactly four hexadecimal digits, capital or small
abbrev pub IsFourDigits : Text → Type 0
IsFourDigits digits = (length digits ≡ 4) × AllPass is_hex_digit digits

-- `job` is what these values of the subcommand `name` ask for
abbrev pub IsJobOf : Text → List Row → Job → Type 0
IsJobOf name rows (Show file) = (name ≡ codes "show") × (first_of (codes "FILE") rows ≡ Some file.now)
IsJobOf name rows (Check file) = (name ≡ codes "check") × (first_of (codes "FILE") rows ≡ Some file.now)
IsJobOf name rows (Rewrite from to) =
    (name ≡ codes "rewrite") × (first_of (codes "IN") rows ≡ Some from.now)
    × (first_of (codes "OUT") rows ≡ Some to.now)
IsJobOf name rows (Link out map ignore_case files) =
    (name ≡ codes "link") × (first_of (codes "OUT") rows ≡ Some out.now)
    × (first_of (codes "MAP") rows ≡ option_map (λ path. path.now) map)
    × IsFlag (codes "ignore-case") rows ignore_case
    × (all_of (codes "FILES") rows ≡ Some (texts files.items)) × (1 ≤ length files.items) × (length files.items ≤ 65535)
IsJobOf name rows (Load file digits paragraph) = (name ≡ codes "load") × (first_of (codes "FILE") rows ≡ Some file.now)
    × (first_of (codes "PARAGRAPH") rows ≡ Some digits.now) × IsFourDigits digits.now
    × (decode_of digits.now ≡ Ok (to_be_bytes w16 paragraph))

-- the command takes the words, and `job` is what its matches give for them
unfoldable pub IsJobFor : List Text → Job → Type 0
IsJobFor words job = (takes omf_command words ≡ true)
    × IsSomeAnd (subcommand_of omf_command words) (λ p. IsJobOf p.0 p.1 job)

-- more files than a link may have
abbrev pub HasTooManyFiles : Text → List Row → Type 0
HasTooManyFiles name rows =
    (name ≡ codes "link") × IsSomeAnd (all_of (codes "FILES") rows) (λ files. 65535 < length files)

-- a paragraph that isn't exactly four hexadecimal digits
abbrev pub HasWrongParagraph : Text → List Row → Type 0
HasWrongParagraph name rows = (name ≡ codes "load")
    × IsSomeAnd (first_of (codes "PARAGRAPH") rows) (λ digits. IsFourDigits digits → ⊥)

-- words that the command takes are refused for nothing but too many files, a wrong paragraph or
-- want of memory
unfoldable pub IsRefusalFor : List Text → WordsFault → Type 0
IsRefusalFor words Memory = ⊤
IsRefusalFor words (Wrong text) =
    IsSomeAnd (subcommand_of omf_command words) (λ p. HasTooManyFiles p.0 p.1 ⊎ HasWrongParagraph p.0 p.1)
IsRefusalFor words (Help text) = ⊥
