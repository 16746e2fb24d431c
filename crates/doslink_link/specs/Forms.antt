-- The file of a linked program in a form.
use Rattle.std.specs.Prelude.{◌≡◌, ◌⊎◌, ℕ, ◌+◌, ◌*◌, ◌≤◌, max, List, Option, Some, None, Ok, Err}
use Rattle.std.specs.declared.result.Result.{Result}
use Rattle.omf_module.specs.Module.{Module}
use Rattle.omf_place.specs.Layout.{Layout}
use Rattle.omf_place.specs.declared.names.Names.{Names}
use Rattle.omf_image.specs.Program.{Program}
use Rattle.omf_image.specs.Words.{put_word, word_at}
use Rattle.omf_commands.specs.declared.linking.Report.{Report}
use Rattle.omf_commands.specs.Linking.{HoldsAtEachParagraph, IsLinked, IsReport}
use Rattle.flat_file.specs.Com.{LoadedCom, loading}
use Rattle.flat_file.specs.Covered.{memory_len}
use Rattle.flat_file.specs.Forms.{com_fault, from_start_fault, raw_fault, sys_fault}
use Rattle.flat_file.specs.Laws.{IsLocatedCom, IsLocatedFrom, IsLocatedSegment, IsWholeFrom}
use Rattle.flat_file.specs.declared.fault.FlatFault.{FlatFault}
use Rattle.flat_file.specs.declared.fault.FlatFault.TheVariants as flat
use Rattle.flat_file.specs.declared.fault.FormFault.{FormFault}
use Rattle.doslink_words.specs.declared.job.Form.{Form}
use Rattle.doslink_words.specs.declared.job.Form.TheVariants.{Exe, LimitedExe, Com, Raw, Driver, FromStart}
use Rattle.doslink_link.specs.Linking.{IsLinkedAs}

-- DOS loads this file as a .COM program, which is the located program wherever its segment fits
abbrev pub LoadsAtEachPsp : Layout → List Module → (file : List ℕ) → Type 0
LoadsAtEachPsp layout modules file =
    (psp : ℕ) → 16 * psp + 65536 ≤ memory_len
    → (memory : LoadedCom) × (loading psp file ≡ Ok memory) × IsLocatedCom psp layout modules memory

-- This file begins where the program starts. That is at 0, and the file is one segment, the located program at each
-- paragraph; or it is at 100H, and DOS loads the file as a .COM program.
abbrev pub BeginsAtStart : Layout → List Module → (file : List ℕ) → Type 0
BeginsAtStart layout modules file =
    ((paragraph : ℕ) → IsLocatedSegment paragraph layout modules file) ⊎ LoadsAtEachPsp layout modules file

-- The same EXE file, but that its header asks for so many paragraphs behind the image at most (e_maxalloc, the word at
-- 0CH), or for those that the program needs (e_minalloc, the word at 0AH) where these are more.
abbrev pub limited : (paragraphs : ℕ) → (file : List ℕ) → List ℕ
limited paragraphs file = put_word file 12 (max paragraphs (word_at file 10))

-- This file is that of linked modules but for such a limit, and holds their program at each paragraph as that does.
abbrev pub IsLimited : {A : Type 0} → (paragraphs : ℕ) → Names → List Module → Report A → (file : List ℕ) → Type 0
IsLimited paragraphs names modules report file =
    (exe : List ℕ) × IsLinkedAs names modules report exe × (file ≡ limited paragraphs exe)
    × HoldsAtEachParagraph names modules file

-- what keeps the program of modules from being a file of a form: nothing of an EXE file
abbrev pub form_fault : Option Form → Layout → List Module → Program → Option FormFault
form_fault None layout modules program = None
form_fault (Some Exe) layout modules program = None
form_fault (Some (LimitedExe paragraphs)) layout modules program = None
form_fault (Some Com) layout modules program = com_fault layout modules program
form_fault (Some (Raw paragraph from)) layout modules program = raw_fault from layout modules
form_fault (Some Driver) layout modules program = sys_fault program
form_fault (Some FromStart) layout modules program = from_start_fault layout modules program

-- This file is that of linked modules in a form: where none is said, and of an EXE file, the one that holds the program
-- at each paragraph, with a limit of the memory behind its image or without; a .COM file that DOS loads as the located
-- program; a raw image, byte for byte the program located at its paragraph, with all that data covers; a driver, byte
-- for byte the program located at any; a file that begins where the program starts.
abbrev pub HasForm : {A : Type 0} → Option Form → Names → List Module → Report A → (file : List ℕ) → Type 0
HasForm None names modules report file = IsLinkedAs names modules report file
HasForm (Some Exe) names modules report file = IsLinkedAs names modules report file
HasForm (Some (LimitedExe paragraphs)) names modules report file = IsLimited paragraphs names modules report file
HasForm (Some Com) names modules report file = LoadsAtEachPsp report.layout modules file
HasForm (Some (Raw paragraph from)) names modules report file =
    IsLocatedFrom paragraph from report.layout modules file × IsWholeFrom from report.layout modules
HasForm (Some Driver) names modules report file =
    (paragraph : ℕ) → IsLocatedFrom paragraph 0 report.layout modules file
HasForm (Some FromStart) names modules report file = BeginsAtStart report.layout modules file

-- the file in a form of these modules, which are linked so; nothing keeps their program from being one
pub record IsFormed {A : Type 0} (form : Option Form) (names : Names) (modules : List Module) (report : Report A)
    (file : List ℕ) : Type 0 where
  pub reported : IsReport names modules report
  pub allowed : form_fault form report.layout modules report.program ≡ None
  pub formed : HasForm form names modules report file

-- this is the first that keeps the program of modules, whose only layout and program these are, from being a file of a
-- form
abbrev pub IsFormFault : Option Form → Names → List Module → FormFault → Type 0
IsFormFault form names modules fault =
    (layout : Layout) × (made : Program) × IsLinked names modules layout made
    × (form_fault form layout modules made ≡ Some fault)

-- What bringing a linked program into a form answers: its file, or the first that keeps it from being one, unless there
-- was no memory.
abbrev pub Forms : {A V : Type 0} → (items : V → List ℕ) → Option Form → Names → List Module → Report A
    → Result V FlatFault → Type 0
Forms items form names modules report (Ok file) = IsFormed form names modules report (items file)
Forms items form names modules report (Err (flat.Form fault)) = IsFormFault form names modules fault
Forms items form names modules report (Err flat.Device) = Unit {0}
