-- What functions within the crate answer.
use Rattle.std.specs.Prelude.{◌≡◌, ℕ, ⊤, Option, Result, Ok, Err}
use Rattle.std.specs.Option.{option_map}
use Rattle.std.specs.Borrow.{Bor}
use Rattle.clap.specs.Words.{Text}
use Rattle.doslink_words.specs.declared.faults.LineFault.{LineFault}
use Rattle.doslink_words.specs.declared.job.Form.{Form}
use Rattle.doslink_words.specs.declared.faults.LineFault.TheVariants.{Memory, Wrong}
use Rattle.doslink_words.specs.declared.faults.WrongWord.{WrongWord}
use Rattle.doslink_words.specs.Directives.{Line, Mistake}
use Rattle.doslink_words.specs.inside.Tokens.{placed_of}

-- what is wrong, as the code has it
abbrev pub mistake_of : WrongWord → Mistake
mistake_of what = record { kind = what.kind; word = option_map placed_of what.word }

-- an answer is what is meant, seen so
abbrev pub Gives : {A B : Type 0} → (A → B) → Result A WrongWord → Line B → Type 0
Gives view (Ok value) meant = meant ≡ Ok (view value)
Gives view (Err what) meant = meant ≡ Err (mistake_of what)

-- a form, or what is wrong, as the code has them
abbrev pub form_said : Result (Option Form) WrongWord → Line (Option Form)
form_said (Ok form) = Ok form
form_said (Err what) = Err (mistake_of what)

-- a change to this is what is meant, or memory was wanting
abbrev pub Follows : {A : Type 0} → Result Unit LineFault → Line A → A → Type 0
Follows (Ok done) meant after = meant ≡ Ok after
Follows (Err Memory) meant after = ⊤
Follows (Err (Wrong what)) meant after = meant ≡ Err (mistake_of what)

-- the name and the value of an option
abbrev pub option_said : Bor Text × Option (Bor Text) → Text × Option Text
option_said o = (o.0.now, option_map (λ value. value.now) o.1)

-- a change to this and a number are what is meant, or memory was wanting
abbrev pub Counts : {A : Type 0} → Result ℕ LineFault → Line (ℕ × A) → A → Type 0
Counts (Ok count) meant after = meant ≡ Ok (count, after)
Counts (Err Memory) meant after = ⊤
Counts (Err (Wrong what)) meant after = meant ≡ Err (mistake_of what)
