-- How a run ends: what its command answered, the line that says so, and the exit status.
use Rattle.std.specs.Prelude.{◌≡◌, ℕ, List, [], ◌++◌, ◌⊎◌, Bool, true, Ok, Err, IsOkUnless, OnOk, if◌then◌else◌}
use Rattle.std.specs.Prelude.{codes, string_bytes}
use Rattle.std.specs.declared.option.Option.{Option}
use Rattle.std.specs.declared.result.Result.{Result}
use Rattle.std.specs.Io.KnownBytes.{Appends, Keeps}
use Rattle.clap.specs.Words.{Text, takes}
use Rattle.command_line.specs.declared.words_fault.WordsFault.{WordsFault}
use Rattle.command_line.specs.declared.words_fault.WordsFault.TheVariants.{Help, Wrong, Memory}
use Rattle.omf_frame.specs.declared.device.IoFault.{IoFault}
use Rattle.omf_frame.specs.Device.{Writes}
use Rattle.omf_frame.specs.Frame.{frame}
use Rattle.omf_record.specs.Body.{kind_of}
use Rattle.omf_record.specs.Canonical.{canonical}
use Rattle.omf_record.specs.Records.{Placed}
use Rattle.omf_text.specs.Details.{listing}
use Rattle.omf_place.specs.declared.names.Names.{Names}
use Rattle.omf_place.specs.declared.names.Names.TheVariants.{AsciiFolded, Exact}
use Rattle.omf_faults.specs.declared.fault.LinkFault.{LinkFault}
use Rattle.omf_faults.specs.declared.fault.LinkFault.TheVariants as link
use Rattle.omf_faults.specs.FaultLines.{fault_line, status}
use Rattle.omf_commands.specs.Reading.{GoesThrough}
use Rattle.omf_commands.specs.Checking.{Checks}
use Rattle.omf_commands.specs.Loading.{LoadsFile}
use Rattle.omf_commands.specs.Outcome.{AreTold, Outcome}
use Rattle.omf_words.specs.declared.words.Job.{Job}
use Rattle.omf_words.specs.declared.words.Job.TheVariants.{Show, Check, Rewrite, Link, Load}
use Rattle.omf_words.specs.Words.{IsJobFor, IsRefusalFor, omf_command}

-- 0 where it is done, else the status of the fault
abbrev pub exit_status : {A : Type 0} → Result (Unit {0}) (LinkFault A) → ℕ
exit_status (Ok done) = 0
exit_status (Err fault) = status fault

-- the line that says why a command stopped, and nothing where it is done; `file` is the word before the fault's number
abbrev pub told_line : {A : Type 0} → Result (Unit {0}) (LinkFault A) → (file : Text) → List ℕ
told_line (Ok done) file = []
told_line (Err fault) file = fault_line (codes "omf") fault file

-- this was written to a sink, or a front of it where the sink failed
abbrev pub Tells : {K : Type 0} → (written : K → Option (List ℕ)) → (failures : K → ℕ) → (old new : K) → List ℕ
    → Type 0
Tells written failures old new text = (r : Result (Unit {0}) IoFault) × Writes written failures old new text r

-- This holds of an answer, unless it is want of memory, which an input's buffer may have had, or a failing output,
-- which comes before what stands behind it.
abbrev pub Settled : {T A : Type 0} → (Result T (LinkFault A) → Type 0) → Result T (LinkFault A) → Type 0
Settled Answered (Err link.Memory) = Unit {0}
Settled Answered (Err link.Output) = Unit {0}
Settled Answered answer = Answered answer

-- which names agree, by `--ignore-case`
abbrev pub names_of : Bool → Names
names_of ignore_case = if ignore_case then AsciiFolded else Exact

-- a record with its canonical body, and the closing byte that makes its sum 0
abbrev pub canonical_record : Placed → List ℕ
canonical_record placed = frame (kind_of placed.says) (canonical placed.says)

-- What the command of a job answers: `told` are the bytes of the files by their paths, where they are told, and
-- `old` and `new` what was written to the standard output. Of files that are written nothing is told.
abbrev pub Answers : {A : Type 0} → (told : Text → Option (List ℕ)) → Job → (old new : Option (List ℕ))
    → Result (Unit {0}) (LinkFault A) → Type 0
Answers told (Show file) old new answer =
    Settled (λ a. (rest mid : Option (List ℕ)) × GoesThrough listing (told file.now) rest old mid a × Keeps mid new)
    answer
Answers told (Check file) old new answer =
    Settled (λ a. (rest mid : Option (List ℕ)) × Checks (told file.now) rest old mid a × Keeps mid new) answer
Answers told (Rewrite from to) old new answer = (new ≡ old)
    × Settled (λ a. (rest before after : Option (List ℕ))
    × GoesThrough canonical_record (told from.now) rest before after a) answer
Answers told (Link out map ignore_case files) old new answer = (new ≡ old)
    × Settled (λ a. (inputs : List (List ℕ)) → AreTold (λ file. told file.now) files.items inputs
    → Outcome (names_of ignore_case) inputs a) answer
Answers told (Load file digits paragraph) old new answer =
    Settled (λ a. (rest mid : Option (List ℕ)) × LoadsFile paragraph (told file.now) rest old mid a × Keeps mid new)
    answer

-- A run ends with the status of an answer, of which this holds, and whose line was written to the standard error.
pub record Ends (A : Type 0) (Answered : Result (Unit {0}) (LinkFault A) → Type 0) (tells : List ℕ → Type 0)
    (code : ℕ) : Type 0 where
  pub answer : Result (Unit {0}) (LinkFault A)
  pub file : Text
  pub answered : Answered answer
  pub line : tells (told_line answer file)
  pub ends : code ≡ exit_status answer

-- the text was written, unless that failed
abbrev pub Prints : {A : Type 0} → Text → (old new : Option (List ℕ)) → Result (Unit {0}) (LinkFault A) → Type 0
Prints text old new answer = OnOk answer (Appends old new text) × IsOkUnless answer link.Output

-- how a run ends whose words are no job: with status 2 where they are wrong, and why is told; after help as its
-- printing did
abbrev pub EndsRefused : (A : Type 0) → WordsFault → (old new : Option (List ℕ)) → (tells : List ℕ → Type 0) → ℕ
    → Type 0
EndsRefused A (Wrong text) old new tells code = (new ≡ old) × tells (string_bytes text) × (code ≡ 2)
EndsRefused A Memory old new tells code = (new ≡ old) × Ends A (λ answer. answer ≡ Err link.Memory) tells code
EndsRefused A (Help text) old new tells code = Ends A (Prints (string_bytes text) old new) tells code

-- How a run ends: as the job does that the words ask for, or as one whose words are refused. Words that the command
-- takes are refused only as IsRefusalFor says.
abbrev pub Runs : (A : Type 0) → (told : Text → Option (List ℕ)) → (words : List Text) → (old new : Option (List ℕ))
    → (tells : List ℕ → Type 0) → ℕ → Type 0
Runs A told words old new tells code =
    ((job : Job) × IsJobFor words job × Ends A (Answers told job old new) tells code)
    ⊎ ((fault : WordsFault) × (takes omf_command words ≡ true → IsRefusalFor words fault)
    × EndsRefused A fault old new tells code)
