-- The options of LINK, 3.6 to 5.6, as a table: what each does here. A name may be shortened to what is unique; small
-- and capital letters are the same. Numbers are decimal, octal behind `0`, hexadecimal behind `0x`.
use Rattle.std.specs.Prelude.{ℕ, ◌==◌, ◌&&◌, ◌||◌, Bool, true, nat_le, nat_lt, List, [], ◌∷◌, length, take, drop, codes}
use Rattle.std.specs.Prelude.{Option, Some, None, if◌then◌else◌, is_some, slice_index, unwrap_or}
use Rattle.std.specs.Option.{option_map, option_or}
use Rattle.std.specs.List.{before_first, after_first, position_or_len}
use Rattle.clap.specs.Words.{Text}
use Rattle.doslink_words.specs.Keywords.{is_keyword}
use Rattle.doslink_words.specs.Sizes.{greatest, is_hexadecimal, longest, numeral}
use Rattle.doslink_words.specs.declared.job.Form.TheVariants as form
use Rattle.makefile_words.specs.declared.faults.FaultKind.{FaultKind}
use Rattle.makefile_words.specs.declared.faults.FaultKind.TheVariants as fault
use Rattle.makefile_words.specs.declared.link.Valued.{Valued}
use Rattle.makefile_words.specs.declared.link.Valued.TheVariants as valued
use Rattle.makefile_words.specs.declared.settings.Idle.TheVariants as idle
use Rattle.makefile_words.specs.declared.settings.Ordering.TheVariants as ordering
use Rattle.makefile_words.specs.declared.settings.Setting.{Setting}
use Rattle.makefile_words.specs.declared.settings.Setting.TheVariants as setting

-- a row of a table: a name, how many of its letters are unique, and what it stands for
abbrev pub RowOf : Type 0 → Type 0
RowOf A = Text × ℕ × A

abbrev pub Row : Type 0
Row = RowOf Setting

-- whether a word is a name, or the front of one that has this many letters at least
unfoldable pub is_short : (word name : Text) → (least : ℕ) → Bool
is_short word name least =
    nat_le least (length word) && nat_le (length word) (length name) && is_keyword word (take (length word) name)

-- what the first row stands for whose name a word is short for
abbrev pub short_named : {A : Type 0} → Text → List (RowOf A) → Option A
short_named word [] = None
short_named word (row ∷ more) = if is_short word row.0 row.1 then Some row.2 else short_named word more

abbrev pub first_named : List Row
first_named =
    (codes "BATCH", 1, setting.Silent)  -- no prompt: there is none
    ∷ (codes "CODEVIEW", 2, setting.Warned idle.Debug)  -- debugging data
    ∷ (codes "DOSSEG", 2, setting.Order ordering.Dosseg)  -- the order DOSSEG
    ∷ (codes "EXEPACK", 1, setting.Warned idle.Packing)  -- a packed file
    ∷ (codes "FARCALLTRANSLATION", 1, setting.Warned idle.Packing)  -- far calls as near ones
    ∷ (codes "INFORMATION", 3, setting.Verbose)  -- tell what is done
    ∷ (codes "LINENUMBERS", 1, setting.LineNumbers true)  -- a map with line numbers
    ∷ (codes "MAP", 1, setting.Publics true)  -- a map with publics
    ∷ (codes "NODEFAULTLIBRARYSEARCH", 3, setting.NoDefaults true)  -- no default libraries
    ∷ []

abbrev pub next_named : List Row
next_named =
    (codes "NOEXTDICTIONARY", 3, setting.Silent)  -- no extended dictionary: none is read
    ∷ (codes "NOFARCALLTRANSLATION", 3, setting.Silent)  -- far calls stay far
    ∷ (codes "NOIGNORECASE", 3, setting.Case true)  -- case counts
    ∷ (codes "NOLOGO", 3, setting.Silent)  -- no banner: there is none
    ∷ (codes "NONULLSDOSSEG", 3, setting.Order ordering.WithoutNulls)  -- DOSSEG without null bytes
    ∷ (codes "NOPACKCODE", 3, setting.Silent)  -- code isn't packed
    ∷ (codes "PAUSE", 3, setting.Silent)  -- wait before the file is written
    ∷ (codes "PACKCODE", 5, setting.Warned idle.Packing)
    ∷ (codes "PACKDATA", 5, setting.Warned idle.Packing)
    ∷ []

abbrev pub last_named : List Row
last_named =
    (codes "TINY", 1, setting.Form form.Com)  -- a .COM file
    ∷ (codes "WARNFIXUP", 1, setting.Warned idle.Nothing)
    ∷ (codes "INCREMENTAL", 3, setting.Warned idle.Nothing)
    ∷ (codes "DSALLOCATE", 2, setting.Refused fault.Refused)  -- DGROUP at the end of 64K
    ∷ (codes "HIGH", 2, setting.Refused fault.Refused)  -- the program high in memory
    ∷ (codes "NOGROUPASSOCIATION", 3, setting.Refused fault.Refused)
    ∷ (codes "DYNAMIC", 2, setting.Refused fault.Overlays)
    ∷ (codes "OLDOVERLAY", 2, setting.Refused fault.Overlays)
    ∷ (codes "QUICKLIBRARY", 1, setting.Refused fault.Refused)
    ∷ []

-- options that say nothing here, with a value or without
abbrev pub idle_named : List Row
idle_named =
    (codes "ALIGNMENT", 1, setting.Warned idle.Nothing)
    ∷ (codes "PADCODE", 4, setting.Warned idle.Nothing)
    ∷ (codes "PADDATA", 4, setting.Warned idle.Nothing)
    ∷ (codes "PMTYPE", 2, setting.Warned idle.Nothing)
    ∷ []

-- options of functions and of p-code
abbrev pub function_named : List Row
function_named =
    (codes "PACKFUNCTIONS", 5, setting.Warned idle.Nothing)  -- leave out functions that nobody calls
    ∷ (codes "NOPACKFUNCTIONS", 7, setting.Silent)  -- leave out none
    ∷ (codes "PCODE", 2, setting.Refused fault.PCode)
    ∷ []

-- an option without a value
abbrev pub plain_named : Text → Option Setting
plain_named word =
    option_or
    (option_or
    (option_or (option_or (short_named word first_named) (short_named word next_named)) (short_named word last_named))
    (short_named word idle_named))
    (short_named word function_named)

-- whether a number is octal
abbrev pub is_octal : Text → Bool
is_octal text = nat_le 1 (length text) && slice_index text 0 == 48

-- the number of an option
abbrev pub number : Text → Option ℕ
number text =
    if is_hexadecimal text then numeral 16 (drop 2 text)
    else (if is_octal text then numeral 8 text else numeral 10 text)

-- `STACK:N`: the stack's bytes, 1 to 65,536
abbrev pub stack_asked : Option ℕ → Setting
stack_asked None = setting.Refused (fault.WrongValue 1 longest)
stack_asked (Some n) =
    if nat_le 1 n && nat_le n longest then setting.Stack n else setting.Refused (fault.WrongValue 1 longest)

-- `CPARMAXALLOC:N`: the header's greatest extra paragraphs, 65,535 at most
abbrev pub extra_asked : Option ℕ → Setting
extra_asked None = setting.Refused (fault.WrongValue 0 65_535)
extra_asked (Some n) = if nat_lt n 65_536 then setting.MostExtra n else setting.Refused (fault.WrongValue 0 65_535)

-- an option that takes a number, none above 1,048,576
abbrev pub number_asked : Setting → Option ℕ → Setting
number_asked asked None = setting.Refused (fault.WrongValue 0 greatest)
number_asked asked (Some n) = asked

-- `MAP:N`, `MAP:FULL` and `MAP:ADDRESS`
abbrev pub map_asked : Text → Setting
map_asked value =
    if is_short value (codes "FULL") 1 || is_short value (codes "ADDRESS") 1 then setting.Warned idle.Nothing
    else number_asked (setting.Publics true) (number value)

-- `ONERROR:NOEXE`: no program is written where there is a fault, which is so
abbrev pub on_error_asked : Text → Setting
on_error_asked value =
    if is_short value (codes "NOEXE") 5 then setting.Silent else setting.Refused fault.NoNoExe

-- options whose value says nothing here
abbrev pub is_idle : Text → Bool
is_idle name =
    is_short name (codes "OVERLAYINTERRUPT") 1 || is_short name (codes "ALIGNMENT") 1
    || is_short name (codes "PADCODE") 4 || is_short name (codes "PADDATA") 4 || is_short name (codes "PACKCODE") 5
    || is_short name (codes "PACKDATA") 5 || is_short name (codes "PMTYPE") 2

-- what the value of an option says
abbrev pub valued_named : Text → Option Valued
valued_named name =
    if is_short name (codes "STACK") 2 then Some valued.Stack
    else (if is_short name (codes "CPARMAXALLOC") 2 then Some valued.MostExtra
    else (if is_short name (codes "SEGMENTS") 2 then Some valued.Number
    else (if is_short name (codes "MAP") 1 then Some valued.Map
    else (if is_short name (codes "NODEFAULTLIBRARYSEARCH") 3 then Some valued.Library
    else (if is_short name (codes "ONERROR") 2 then Some valued.OnError
    else (if is_idle name then Some valued.Idle
    else None))))))

-- what a value asks for
abbrev pub value_asked : Valued → Text → Setting
value_asked valued.Stack value = stack_asked (number value)
value_asked valued.MostExtra value = extra_asked (number value)
value_asked valued.Number value = number_asked setting.Silent (number value)
value_asked valued.Map value = map_asked value
value_asked valued.Library value = setting.LeavesOut
value_asked valued.OnError value = on_error_asked value
value_asked valued.Idle value = setting.Warned idle.Nothing

-- an option with a value
abbrev pub valued_option : (name value : Text) → Option Setting
valued_option name value = option_map (λ kind. value_asked kind value) (valued_named name)

-- whether a byte is the colon in front of a value
abbrev pub is_colon : ℕ → Bool
is_colon byte = byte == 58

-- what an option asks for, none where there is no such option
unfoldable pub link_option : Text → Option Setting
link_option option =
    if nat_lt (position_or_len is_colon option) (length option)
    then valued_option (before_first is_colon option) (after_first is_colon option) else plain_named option

-- ---- what is no option

-- names that take a value, which is expected
abbrev pub value_expected : List (RowOf FaultKind)
value_expected =
    (codes "STACK", 2, fault.WrongValue 1 longest)
    ∷ (codes "CPARMAXALLOC", 2, fault.WrongValue 0 65_535)
    ∷ (codes "SEGMENTS", 2, fault.WrongValue 0 greatest)
    ∷ (codes "ONERROR", 2, fault.NoNoExe)
    ∷ []

-- whether a text is a front of several names, and none that is taken: one name for each such front, as of CO and CP
abbrev pub is_early_front : Text → Bool
is_early_front text =
    is_short text (codes "CODEVIEW") 1 || is_short text (codes "DOSSEG") 1 || is_short text (codes "HIGH") 1
    || is_short text (codes "INFORMATION") 1

abbrev pub is_late_front : Text → Bool
is_late_front text =
    is_short text (codes "NODEFAULTLIBRARYSEARCH") 1 || is_short text (codes "OVERLAYINTERRUPT") 1
    || is_short text (codes "PACKCODE") 1 || is_short text (codes "PADCODE") 1 || is_short text (codes "SEGMENTS") 1

abbrev pub is_front_of_several : Text → Bool
is_front_of_several text = is_early_front text || is_late_front text

-- what is wrong with the name of what is no option: it takes no value, or needs one, or is short for several
abbrev pub name_fault : Text → FaultKind
name_fault name =
    if is_some (plain_named name) then fault.NoValue
    else unwrap_or (short_named name value_expected)
    (if is_front_of_several name then fault.ShortForSeveral else fault.UnknownOption)

-- what is wrong with a text that is no option
unfoldable pub link_fault : Text → FaultKind
link_fault option = name_fault (before_first is_colon option)
