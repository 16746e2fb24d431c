-- What a record says, by its type and its body.
use Rattle.std.specs.Prelude.{◌≡◌, ◌⊎◌, ℕ, List}
use Rattle.std.specs.declared.option.Option.{Option}
use Rattle.omf_codec.specs.Faults.{TextFault}
use Rattle.omf_extended.specs.Body as extended
use Rattle.omf_extended.specs.Said.{Extended}
use Rattle.omf_record.specs.Body as narrow
use Rattle.omf_record.specs.Record.{Record, Coment}
use Rattle.omf_types.specs.declared.types.CommentClass.{CommentClass}
use Rattle.omf_types.specs.Types.{IsClassOf}
use Rattle.omf_wide.specs.Answer.{Stands}
use Rattle.omf_wide.specs.Body.{BodyOf, IsWideType}
use Rattle.omf_wide.specs.declared.fault.WideFault.TheVariants.{Above16Bits}
use Rattle.omf_wide.specs.Said.{Said, Plain}
use Rattle.doslib_show.specs.Names.{Names, names_behind, names_behind_more}

-- What a record says; a comment, with its type byte and its class; what a record says of one of the types that came
-- after Intel's; nothing that is known; or nothing, since its body is
-- none of its type from this byte on
pub data Meaning : Type 0 where
  Says : Said → Meaning
  SaysMore : Extended → Meaning
  Comments : (kind class : ℕ) (known : Option CommentClass) (bytes : List ℕ) → Meaning
  Unknown : Meaning
  Wrong : (at : ℕ) → Meaning

-- the body of a record of this type says this
abbrev pub Means : (kind : ℕ) (body : List ℕ) → Meaning → Type 0
Means kind body (Says said) =
    BodyOf kind said body ⊎ ((r : Record) × (said ≡ Plain r) × narrow.BodyOf kind r body)
Means kind body (Comments type class known bytes) =
    narrow.BodyOf kind (Coment type class bytes) body × IsClassOf class known
Means kind body (SaysMore more) = extended.BodyOf kind more body
Means kind body Unknown =
    ((IsWideType kind → ⊥) × (narrow.IsRecordType kind → ⊥) × (extended.IsExtendedType kind → ⊥))
    ⊎ ((at : ℕ) × Stands kind body (Above16Bits at))
Means kind body (Wrong at) =
    (IsWideType kind × TextFault (BodyOf kind) body at)
    ⊎ ((narrow.IsRecordType kind × narrow.BodyFault kind body at)
    ⊎ (extended.IsExtendedType kind × TextFault (extended.BodyOf kind) body at))

-- the names behind a record that means this
abbrev pub names_after : Names → Meaning → Names
names_after names (Says said) = names_behind names said
names_after names (SaysMore more) = names_behind_more names more
names_after names _ = names
