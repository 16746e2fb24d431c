-- The options of TLINK, 2.0 to 7.1, as a table: what each does here. Capital and small letters differ.
use Rattle.std.specs.Prelude.{ℕ, ◌-◌, ◌==◌, ◌&&◌, ◌||◌, Bool, true, false, nat_le, List, [], ◌∷◌, length, take, codes}
use Rattle.std.specs.Prelude.{Option, Some, None, if◌then◌else◌, slice_index}
use Rattle.std.specs.Option.{option_or}
use Rattle.std.specs.Str.{bytes_eq}
use Rattle.clap.specs.Words.{Text}
use Rattle.doslink_words.specs.declared.job.Form.TheVariants as form
use Rattle.makefile_words.specs.declared.faults.FaultKind.{FaultKind}
use Rattle.makefile_words.specs.declared.faults.FaultKind.TheVariants as fault
use Rattle.makefile_words.specs.declared.settings.Idle.TheVariants as idle
use Rattle.makefile_words.specs.declared.settings.Setting.{Setting}
use Rattle.makefile_words.specs.declared.settings.Setting.TheVariants as setting

-- a row of a table: an option, and what it asks for
abbrev pub Row : Type 0
Row = Text × Setting

-- the first row of a name
abbrev pub named : Text → List Row → Option Setting
named text [] = None
named text (row ∷ more) = if bytes_eq text row.0 then Some row.1 else named text more

-- options that `-` behind them switches off
abbrev pub flags : (on : Bool) → List Row
flags on =
    (codes "c", setting.Case on)  -- case counts
    ∷ (codes "i", setting.WritesAll on)  -- all segments' bytes stand in the file
    ∷ (codes "l", setting.LineNumbers on)  -- line numbers in the map
    ∷ (codes "m", setting.Publics on)  -- a map with publics
    ∷ (codes "n", setting.NoDefaults on)  -- no default libraries
    ∷ (codes "s", setting.Detailed on)  -- a detailed map of segments
    ∷ (codes "x", setting.NoMap on)  -- no map
    ∷ (codes "e", setting.Silent)  -- no extended dictionary: none is read
    ∷ (codes "3", setting.Silent)  -- records of 32 bits: they are read
    ∷ (codes "C", setting.Silent)  -- case of exports and imports: there are none
    ∷ (codes "E", setting.Silent)  -- extended dictionaries are read
    ∷ (codes "k", setting.Silent)  -- tell of no missing stack
    ∷ (codes "j", setting.Silent)
    ∷ (codes "P", setting.Silent)  -- pack code segments
    ∷ []

-- options of more than one letter, and those that are switched off otherwise
abbrev pub words : List Row
words =
    (codes "t", setting.Form form.Com)  -- a .COM file
    ∷ (codes "Tdc", setting.Form form.Com)  -- a .COM file for DOS
    ∷ (codes "Td", setting.Form form.Exe)  -- a file for DOS
    ∷ (codes "t-", setting.Form form.Exe)
    ∷ (codes "Tde", setting.Form form.Exe)  -- an .EXE file for DOS
    ∷ (codes "v", setting.Warned idle.Debug)  -- debugging data
    ∷ (codes "d", setting.Warned idle.Nothing)  -- warn of names that two libraries define
    ∷ (codes "M", setting.Warned idle.Nothing)  -- names of the map as C++ has them
    ∷ (codes "f", setting.Warned idle.Packing)  -- far calls stay far
    ∷ (codes "o", setting.Refused fault.Overlays)  -- overlays
    ∷ (codes "v-", setting.Silent)
    ∷ (codes "d-", setting.Silent)
    ∷ (codes "M-", setting.Silent)
    ∷ (codes "f-", setting.Silent)
    ∷ (codes "o-", setting.Silent)
    ∷ (codes "yc", setting.Silent)  -- expanded memory for TLINK itself: none
    ∷ (codes "ye", setting.Silent)
    ∷ []

-- whether an option begins with this letter, and has a value behind it
abbrev pub begins : (letter : ℕ) → Text → Bool
begins letter option = nat_le 1 (length option) && slice_index option 0 == letter

abbrev pub has_value : (letter : ℕ) → Text → Bool
has_value letter option = nat_le 2 (length option) && slice_index option 0 == letter

-- whether it is `=`, behind this letter
abbrev pub has_number : (letter : ℕ) → Text → Bool
has_number letter option =
    nat_le 2 (length option) && slice_index option 0 == letter && slice_index option 1 == 61

-- `A=N` and `P=N`
abbrev pub numbered : Text → Option Setting
numbered option = if has_number 65 option || has_number 80 option then Some setting.Silent else None

-- options behind whose letter any text may stand: `LFOLDERS`, `jFOLDERS` (of objects), `O..`, `y..`; `T..` for programs
-- that aren't of DOS and `R..` for their resources are refused
abbrev pub begun : Text → Option Setting
begun option =
    if has_value 76 option then Some setting.Folders
    else (if has_value 106 option then Some setting.ObjectFolders
    else (if begins 79 option then Some (setting.Warned idle.Packing)
    else (if begins 121 option then Some (setting.Warned idle.Nothing)
    else (if begins 84 option then Some (setting.Refused fault.NotDos)
    else (if begins 82 option then Some (setting.Refused fault.Refused)
    else None)))))

-- whether a `-` stands at its end
abbrev pub is_off : Text → Bool
is_off option = nat_le 1 (length option) && slice_index option (length option - 1) == 45

abbrev pub switched_off : Text → Option Setting
switched_off option = if is_off option then named (take (length option - 1) option) (flags false) else None

-- what an option asks for behind whose name no text may stand but a number
unfoldable pub closed_option : Text → Option Setting
closed_option option =
    option_or (option_or (option_or (named option (flags true)) (switched_off option)) (named option words))
    (numbered option)

-- what an option asks for, none where there is no such option
unfoldable pub tlink_option : Text → Option Setting
tlink_option option = option_or (closed_option option) (begun option)

-- what is wrong with a text that is no option
abbrev pub tlink_fault : Text → FaultKind
tlink_fault option = if bytes_eq option (codes "L") then fault.NoFolders else fault.UnknownOption
