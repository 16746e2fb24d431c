-- What the record of a frame says, by the family of its type, and what reading it answers.
use Rattle.std.specs.Prelude.{◌≡◌, ℕ, ◌==◌, Bool, true, false, not, ◌||◌, List, Ok, Err}
use Rattle.std.specs.declared.result.Result.{Result}
use Rattle.omf_record.specs.Answer as narrow_answer
use Rattle.omf_record.specs.Body as narrow
use Rattle.omf_wide.specs.Answer as wide_answer
use Rattle.omf_wide.specs.Body as wide
use Rattle.omf_extended.specs.Answer as later_answer
use Rattle.omf_extended.specs.Body as later
use Rattle.omf_plain.specs.declared.given.Given as lent
use Rattle.omf_plain.specs.Given.{Given, Narrow, Wide, Data, Repeated, Later}
use Rattle.omf_plain.specs.View.{given_view}
use Rattle.omf_plain.specs.declared.fault.GivenFault.{GivenFault}
use Rattle.omf_plain.specs.declared.fault.GivenFault.TheVariants as fault
use Rattle.omf_record.specs.declared.parse.RecordFault.TheVariants as narrow_fault
use Rattle.omf_wide.specs.declared.fault.WideFault.TheVariants as wide_fault
use Rattle.omf_extended.specs.declared.fault.ExtendedFault.TheVariants as later_fault

-- read as one of the fourteen: THEADR, COMENT, EXTDEF, PUBDEF, LINNUM, LNAMES, GRPDEF, LEDATA, LIDATA, LEXTDEF, LPUBDEF
abbrev pub is_narrow : (kind : ℕ) → Bool
is_narrow kind =
    (kind == 0x80) || (kind == 0x88) || (kind == 0x8C) || (kind == 0x90) || (kind == 0x94) || (kind == 0x96)
    || (kind == 0x9A) || (kind == 0xA0) || (kind == 0xA2) || (kind == 0xB4) || (kind == 0xB6)

-- read as one of 32 bits or like it: LHEADR, MODEND, PUBDEF, LINNUM, SEGDEF, FIXUPP, LEXTDEF, LPUBDEF, CEXTDEF,
-- LLNAMES
abbrev pub is_wide : (kind : ℕ) → Bool
is_wide kind =
    (kind == 0x82) || (kind == 0x8A) || (kind == 0x8B) || (kind == 0x91) || (kind == 0x95) || (kind == 0x98)
    || (kind == 0x99) || (kind == 0x9C) || (kind == 0x9D) || (kind == 0xB5) || (kind == 0xB7)
    || (kind == 0xBC) || (kind == 0xCA)

-- read as data of 32 bits: LEDATA
abbrev pub is_data : (kind : ℕ) → Bool
is_data kind = kind == 0xA1

-- read as repeated data of 32 bits: LIDATA
abbrev pub is_repeated : (kind : ℕ) → Bool
is_repeated kind = kind == 0xA3

-- read as one that came after Intel's: any other
abbrev pub is_later : (kind : ℕ) → Bool
is_later kind = not (is_narrow kind || is_wide kind || is_data kind || is_repeated kind)

-- a body of a type says this
abbrev pub IsGiven : (kind : ℕ) → (body : List ℕ) → Given → Type 0
IsGiven kind body (Narrow r) = (is_narrow kind ≡ true) × narrow.BodyOf kind r body
IsGiven kind body (Wide said) = (is_wide kind ≡ true) × wide.NarrowBodyOf kind said body
IsGiven kind body (Data segment offset bytes) =
    (is_data kind ≡ true) × wide.DataText segment offset bytes body
IsGiven kind body (Repeated segment offset blocks) =
    (is_repeated kind ≡ true) × later.RepeatedText segment offset blocks body
IsGiven kind body (Later said) = (is_later kind ≡ true) × later.BodyOf kind said body

-- the one fault that stands in a body of a type; there may have been no memory
abbrev pub GivenStands : (kind : ℕ) → (body : List ℕ) → GivenFault → Type 0
GivenStands kind body (fault.Narrow f) = (is_narrow kind ≡ true) × narrow_answer.Answers {A = ℕ} kind body (Err f)
GivenStands kind body (fault.Wide f) = (is_wide kind ≡ true) × wide_answer.Stands kind body f
GivenStands kind body (fault.Data f) = (is_data kind ≡ true) × wide_answer.WideDataAnswers body (Err f)
GivenStands kind body (fault.Repeated f) = (is_repeated kind ≡ true) × later_answer.Stands 0xA3 body f
GivenStands kind body (fault.Later f) = (is_later kind ≡ true) × later_answer.Stands kind body f

-- there was no memory
abbrev pub is_memory : GivenFault → Bool
is_memory (fault.Narrow narrow_fault.Memory) = true
is_memory (fault.Wide wide_fault.Memory) = true
is_memory (fault.Data wide_fault.Memory) = true
is_memory (fault.Repeated later_fault.Memory) = true
is_memory (fault.Later later_fault.Memory) = true
is_memory _ = false

-- a body of a type says nothing, for this reason
abbrev pub IsGivenFault : (kind : ℕ) → (body : List ℕ) → GivenFault → Type 0
IsGivenFault kind body f = GivenStands kind body f × (is_memory f ≡ false)

-- the only answer for a type and a body, unless memory runs out
abbrev pub GivenAnswers : {A : Type 0} → ℕ → List ℕ → Result (lent.Given A) GivenFault → Type 0
GivenAnswers kind body (Ok given) = IsGiven kind body (given_view given)
GivenAnswers kind body (Err f) = GivenStands kind body f
