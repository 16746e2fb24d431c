-- Which part of a word is a name, and which is options. `/` begins an option anywhere, `-` only at a word's start; since
-- `/` parts folders on Unix too, a word is options only where they are whole.
use Rattle.std.specs.Prelude.{ℕ, zero, suc, ◌+◌, ◌==◌, ◌&&◌, ◌||◌, not, Bool, true, false, nat_le, nat_lt, List}
use Rattle.std.specs.Prelude.{[], ◌∷◌, length, drop, Option, Some, None, Result, Ok, Err, if◌then◌else◌, is_some, slice_index}
use Rattle.std.specs.Option.{option_and_then, option_map_or, option_or}
use Rattle.std.specs.List.{position_or_len}
use Rattle.std.specs.Path.{rsplit_once}
use Rattle.clap.specs.Lexer.{strip_byte}
use Rattle.clap.specs.Words.{Text}
use Rattle.makefile_words.specs.declared.faults.FaultKind.{FaultKind}
use Rattle.makefile_words.specs.declared.faults.FaultKind.TheVariants.{TwoWays}
use Rattle.makefile_words.specs.declared.settings.Setting.{Setting}
use Rattle.makefile_words.specs.declared.tokens.Language.{Language}
use Rattle.makefile_words.specs.declared.tokens.Language.TheVariants.{Tlink, Link}
use Rattle.makefile_words.specs.Link.{link_fault, link_option}
use Rattle.makefile_words.specs.Parts.{parts}
use Rattle.makefile_words.specs.Tlink.{closed_option, tlink_fault, tlink_option}

-- what an option asks for, none where there is no such option
abbrev pub option_named : Language → Text → Option Setting
option_named Tlink option = tlink_option option
option_named Link option = link_option option

-- what is wrong with a text that is no option
abbrev pub option_fault : Language → Text → FaultKind
option_fault Tlink option = tlink_fault option
option_fault Link option = link_fault option

-- whether there is such an option
abbrev pub is_option : Language → Text → Bool
is_option language option = is_some (option_named language option)

-- whether an option may stand behind a name in one word. One of TLINK with any text behind its letter may not: a path
-- of Unix may end so, as `lib/LIBC.LIB` and `obj/job.obj`
abbrev pub may_touch : Language → Text → Bool
may_touch Tlink option = is_some (closed_option option)
may_touch Link option = is_option Link option

-- the options of TLINK whose value is folders, which `;` parts: `L` (libraries) and `j` (objects)
abbrev pub takes_folders : Language → Text → Bool
takes_folders Tlink option = nat_le 1 (length option) && (slice_index option 0 == 76 || slice_index option 0 == 106)
takes_folders Link option = false

-- whether one of these options takes folders, behind whole options alone
abbrev pub lead_to_folders : Language → List Text → Bool
lead_to_folders language [] = false
lead_to_folders language (option ∷ more) =
    takes_folders language option || (is_option language option && lead_to_folders language more)

-- whether a word begins as options, of which one takes folders
abbrev pub has_folders : Language → Text → Bool
has_folders language word =
    option_map_or (λ options. lead_to_folders language (parts 47 options))
    (option_or (strip_byte 47 word) (strip_byte 45 word))
    false

-- whether these are all options
abbrev pub are_options : Language → List Text → Bool
are_options language [] = true
are_options language (option ∷ more) = is_option language option && are_options language more

-- the options between which `/` stands, as `Lc:\a` and `c` in `Lc:\a/c`; where these aren't all whole options, as in
-- `L/tc/lib`, an option with folders is one as a whole
abbrev pub options_in : Language → Text → List Text
options_in language text =
    if takes_folders language text && not (are_options language (parts 47 text)) then text ∷ []
    else parts 47 text

-- whether a text is options, with `/` between them
abbrev pub is_all_options : Language → Text → Bool
is_all_options language text = are_options language (options_in language text)

-- what a word is: a name, options, or a name with options behind it
pub record SaidCut : Type 0 where
  pub name : Option Text
  pub options : Option Text

-- what stands before a word's last `/`, where a whole option follows that
abbrev pub front : Language → Text → Option Text
front language word =
    option_and_then (λ p. if may_touch language p.1 then Some p.0 else None) (rsplit_once 47 word)

-- what stands in front of the whole options at a word's end
abbrev pub head_below : (bound : ℕ) → Language → Text → Text
head_below zero language word = word
head_below (suc bound) language word = option_map_or (head_below bound language) (front language word) word

-- each cut leaves less, so that the bound is none
unfoldable pub head : Language → Text → Text
head language word = head_below (length word) language word

-- a word that begins with no `/` or `-`: its longest tail of whole options is options
abbrev pub named : Language → Text → SaidCut
named language word = record {
  name = Some (head language word);
  options =
      if nat_lt (length (head language word)) (length word) then Some (drop (length (head language word) + 1) word)
      else None;
}

-- whether a word begins with `./` or `../`
abbrev pub is_dotted : Text → Bool
is_dotted word =
    (nat_le 2 (length word) && slice_index word 0 == 46 && slice_index word 1 == 47)
    || (nat_le 3 (length word) && slice_index word 0 == 46 && slice_index word 1 == 46 && slice_index word 2 == 47)

-- whether a text has a byte
abbrev pub has : ℕ → Text → Bool
has mark text = nat_lt (position_or_len (λ byte. byte == mark) text) (length text)

-- whether a text has a `/`
abbrev pub has_slash : Text → Bool
has_slash text = has 47 text

-- whether a text has `\` or `:`, as a path of DOS
abbrev pub is_of_dos : Text → Bool
is_of_dos text = has 92 text || has 58 text

-- whether a text is an option with folders of Unix, and options with `/` between them as well, as `La/c`
abbrev pub is_both : Language → Text → Bool
is_both language text =
    takes_folders language text && not (is_of_dos text)
    && (nat_lt 1 (length (parts 47 text)) && are_options language (parts 47 text))

-- a word that begins as an option, with what stands behind that: options, a path where it may be one, or a fault
abbrev pub begun : Language → (word options : Text) → (is_path : Bool) → Result SaidCut FaultKind
begun language word options is_path =
    if is_both language options then Err TwoWays
    else (if is_all_options language options then Ok (record { name = None; options = Some options })
    else (if is_path then Ok (record { name = Some word; options = None }) else Err (option_fault language options)))

-- a word that isn't dotted
abbrev pub undotted : Language → Text → Result SaidCut FaultKind
undotted language word =
    option_map_or (λ options. begun language word options false)
    (strip_byte 45 word)
    (option_map_or (λ options. begun language word options (has_slash options)) (strip_byte 47 word)
    (Ok (named language word)))

-- what a word is
unfoldable pub cut : Language → Text → Result SaidCut FaultKind
cut language word =
    if is_dotted word then Ok (record { name = Some word; options = None }) else undotted language word
