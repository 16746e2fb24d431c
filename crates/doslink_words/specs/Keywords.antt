-- The words of directives, which are read without regard to case, and of which many may be shortened.
use Rattle.std.specs.Prelude.{ℕ, ◌&&◌, ◌||◌, Bool, Option, Some, None, map, codes, if◌then◌else◌, length, nat_le, take}
use Rattle.std.specs.Char.{to_ascii_lowercase}
use Rattle.std.specs.Option.{option_or}
use Rattle.std.specs.Str.{bytes_eq}
use Rattle.clap.specs.Words.{Text}
use Rattle.doslink_words.specs.declared.keywords.Directive.{Directive}
use Rattle.doslink_words.specs.declared.keywords.Directive.TheVariants as directive
use Rattle.doslink_words.specs.declared.keywords.Switch.{Switch}
use Rattle.doslink_words.specs.declared.keywords.Switch.TheVariants as switch
use Rattle.doslink_words.specs.declared.keywords.Plain.TheVariants as plain
use Rattle.doslink_words.specs.declared.job.WarningKind.TheVariants as warning

-- whether a word is this keyword, where small and capital letters are the same
unfoldable pub is_keyword : (word keyword : Text) → Bool
is_keyword word keyword = bytes_eq (map to_ascii_lowercase word) (map to_ascii_lowercase keyword)

-- whether a word is a keyword, or the front of one that has this many letters at least
unfoldable pub is_short : (word keyword : Text) → (least : ℕ) → Bool
is_short word keyword least =
    nat_le least (length word) && nat_le (length word) (length keyword)
    && is_keyword word (take (length word) keyword)

-- the directive of a name
abbrev pub directive_named : Text → Option Directive
directive_named word =
    if is_short word (codes "file") 1 then Some directive.File
    else (if is_short word (codes "library") 1 then Some directive.Library
    else (if is_short word (codes "libpath") 4 then Some directive.Folder
    else (if is_short word (codes "name") 1 then Some directive.Name
    else (if is_short word (codes "format") 4 then Some directive.Format
    else (if is_short word (codes "option") 2 then Some directive.Option
    else (if is_short word (codes "order") 3 then Some directive.Order
    else (if is_short word (codes "debug") 1 then Some directive.Debug
    else (if is_short word (codes "sort") 3 then Some directive.Sort
    else (if is_short word (codes "disable") 4 then Some directive.Disable
    else (if is_short word (codes "system") 3 then Some directive.System
    else (if is_short word (codes "output") 3 then Some directive.Output
    else (if is_short word (codes "reference") 3 then Some directive.Reference
    else (if is_short word (codes "alias") 1 then Some directive.Alias
    else (if is_short word (codes "path") 1 then Some directive.Path
    else None))))))))))))))

-- whether a word goes on with `debug`, and with `sort`
abbrev pub is_debug_word : Text → Bool
is_debug_word word =
    is_short word (codes "dwarf") 2 || is_short word (codes "watcom") 1 || is_short word (codes "codeview") 1
    || is_short word (codes "novell") 2 || is_short word (codes "all") 2 || is_short word (codes "lines") 2
    || is_short word (codes "types") 2 || is_short word (codes "locals") 2 || is_short word (codes "onlyexports") 4

abbrev pub is_sort_word : Text → Bool
is_sort_word word = is_short word (codes "global") 2 || is_short word (codes "alphabetical") 3

-- whether an option changes nothing of a DOS program
abbrev pub is_harmless : Text → Bool
is_harmless word =
    is_short word (codes "verbose") 1 || is_short word (codes "statics") 4 || is_short word (codes "artificial") 3
    || is_short word (codes "showdead") 3 || is_short word (codes "cache") 3 || is_short word (codes "nocache") 5
    || is_short word (codes "farcalls") 2 || is_short word (codes "nofarcalls") 3
    || is_short word (codes "maxerrors") 4 || is_short word (codes "mangled") 3

-- whether an option asks that names agree with regard to case, or without
abbrev pub is_exact : Text → Bool
is_exact word =
    is_short word (codes "caseexact") 1 || is_short word (codes "nocaseignore") 7
    || is_short word (codes "noignorecase") 3

abbrev pub is_ignoring : Text → Bool
is_ignoring word =
    is_short word (codes "nocaseexact") 5 || is_short word (codes "caseignore") 5
    || is_short word (codes "ignorecase") 2

-- the option of a name that takes a value
abbrev pub valued_named : Text → Option Switch
valued_named word =
    if is_short word (codes "map") 1 then Some switch.Map
    else (if is_short word (codes "stack") 2 then Some switch.Stack
    else (if is_short word (codes "start") 4 then Some switch.Start
    else None))

-- one that takes none, or has no effect
abbrev pub plain_named : Text → Option Switch
plain_named word =
    if is_short word (codes "quiet") 1 then Some (switch.Plain plain.Quiet)
    else (if is_short word (codes "dosseg") 3 then Some (switch.Plain plain.Dosseg)
    else (if is_exact word then Some (switch.Plain plain.Exact)
    else (if is_ignoring word then Some (switch.Plain plain.Ignoring)
    else (if is_short word (codes "nodefaultlibs") 3 then Some (switch.Plain plain.NoDefaultLibraries)
    else (if is_short word (codes "symfile") 4 then Some (switch.Idle warning.Symbols)
    else (if is_harmless word then Some (switch.Idle warning.Option)
    else None))))))

-- the option of a name
abbrev pub switch_named : Text → Option Switch
switch_named word = option_or (valued_named word) (plain_named word)
