-- What reading a program's file finds, and what a job comes to by that.
use Rattle.std.proofs.Common.{◌≡◌, ◌∙◌, ℕ, ◌+◌, ◌-◌, ◌&&◌, ◌||◌, Bool, not, nat_le, nat_lt, true, false, List}
use Rattle.std.proofs.Common.{if◌then◌else◌, length, take, Some, Ok, Err, Result, IfOk, ap, sym, arith, true≢false}
use Rattle.std.specs.List.{list_all}
use Rattle.std.specs.Result.{is_ok}
use Rattle.std.proofs.lemmas.List.{length-append, length-take}
use Rattle.mz.specs.declared.fault.FileFault.{FileFault}
use Rattle.mz.specs.declared.fault.FileFault.TheVariants as fault
use Rattle.mz.specs.File.{MzFile}
use Rattle.mz.specs.Header.{header_at, is_accepted, is_inside, told_len}
use Rattle.mz.specs.Reading.{Takes, file_of, reading}
use Rattle.doslib_jobs.specs.declared.fault.Stopped.{Stopped}
use Rattle.doslib_jobs.specs.declared.outcome.Outcome.{Outcome}
use Rattle.doslib_jobs.specs.inside.Running.{outcome_said, said}

-- an answer that is none of a fault is that behind its test
behind_test : {X E : Type 0} (b : Bool) (e : E) (r : Result X E) (x : X) → (if b then Err e else r) ≡ Ok x → r ≡ Ok x
behind_test true e r x is = absurd (true≢false (sym (ap is_ok is)))
behind_test false e r x is = is

behind_four : {X E : Type 0} (a b c d : Bool) (e f g h : E) (r : Result X E) (x : X)
    → (if a then Err e else if b then Err f else if c then Err g else if d then Err h else r) ≡ Ok x → r ≡ Ok x
behind_four a b c d e f g h r x is =
    behind_test d h r x (behind_test c g (if d then Err h else r) x
    (behind_test b f (if c then Err g else if d then Err h else r) x
    (behind_test a e (if b then Err f else if c then Err g else if d then Err h else r) x is)))

-- what was read, or another file where it has a fault
abbrev held : MzFile → Result MzFile FileFault → MzFile
held other (Ok file) = file
held other (Err e) = other

-- the header of what a file holds is the one that it begins with
header_read : (bytes : List ℕ) (program : MzFile) → reading bytes ≡ Ok program → program.header ≡ header_at bytes
unfolding reading file_of
header_read bytes program is =
    let last =
    behind_four _ (nat_le 28 (length bytes) && not (is_accepted (header_at bytes)))
    (nat_lt (length bytes) 28 || nat_lt (length bytes) (told_len (header_at bytes)))
    (not (list_all (is_inside (length (file_of bytes).image)) (file_of bytes).entries)) fault.Magic fault.Header
    fault.Truncated fault.RelocationOutside (Ok (file_of bytes)) program is in
    sym (ap (λ r. (held program r).header) last)

-- how many bytes stand behind it
pub stands_behind : (bytes rest : List ℕ) (program : MzFile) → reading bytes ≡ Ok program
    → Takes (Some bytes) (Some rest) (Ok program) → length rest ≡ length bytes - told_len program.header
stands_behind bytes rest program is taken =
    let len = told_len (header_at bytes) in
    let all : length bytes ≡ length (take len bytes) + length rest =
    ap length taken ∙ length-append (take len bytes) rest in
    let front = length-take len bytes in
    let same : told_len program.header ≡ len = ap told_len (header_read bytes program is) in
    omega (arith, all, front, same)

-- what holds of an outcome, as a job's answer has it
pub said-weaker : {A : Type 0} (r : Result (Outcome A) Stopped) (P Q : List ℕ × ℕ → Type 0)
    → ((answer : List ℕ × ℕ) → P answer → Q answer) → IfOk r (λ o. P (said o)) → IfOk (outcome_said r) Q
said-weaker (Ok o) P Q weaker holds = weaker (said o) holds
said-weaker (Err why) P Q weaker holds = tt
