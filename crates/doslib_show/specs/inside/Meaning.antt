-- What the code's values mean.
use Rattle.std.specs.Prelude.{◌≡◌, ◌⊎◌, ℕ, List}
use Rattle.omf_codec.specs.Faults.{TextFault}
use Rattle.omf_extended.specs.Body as extended
use Rattle.omf_extended.specs.View.{extended_view}
use Rattle.omf_record.specs.Body as narrow
use Rattle.omf_record.specs.Record.{Record, Coment}
use Rattle.omf_types.specs.Types.{IsClassOf}
use Rattle.omf_wide.specs.Said.{Plain}
use Rattle.omf_wide.specs.View.{said_view}
use Rattle.doslib_show.specs.declared.meaning.Meaning.{Meaning}
use Rattle.doslib_show.specs.declared.meaning.Meaning.TheVariants as code
use Rattle.doslib_show.specs.Meaning as says

-- without where slices lie in memory
abbrev pub meaning_view : {A : Type 0} → Meaning A → says.Meaning
meaning_view (code.Says said) = says.Says (said_view said)
meaning_view (code.Comments kind class known bytes) = says.Comments kind class known bytes.now
meaning_view (code.SaysMore more) = says.SaysMore (extended_view more)
meaning_view code.Unknown = says.Unknown
meaning_view (code.Wrong at) = says.Wrong at

-- a body of one of the types that came after Intel's means this
abbrev pub IsMore : (kind : ℕ) (body : List ℕ) → says.Meaning → Type 0
IsMore kind body (says.Says said) = ⊥
IsMore kind body (says.Comments type class known bytes) = ⊥
IsMore kind body (says.SaysMore more) = extended.BodyOf kind more body
IsMore kind body says.Unknown = extended.IsExtendedType kind → ⊥
IsMore kind body (says.Wrong at) = extended.IsExtendedType kind × TextFault (extended.BodyOf kind) body at

-- a body of one of the fourteen, or else of one of these, means this
abbrev pub IsPlain : (kind : ℕ) (body : List ℕ) → says.Meaning → Type 0
IsPlain kind body (says.Says said) = (r : Record) × (said ≡ Plain r) × narrow.BodyOf kind r body
IsPlain kind body (says.Comments type class known bytes) =
    narrow.BodyOf kind (Coment type class bytes) body × IsClassOf class known
IsPlain kind body (says.SaysMore more) = extended.BodyOf kind more body
IsPlain kind body says.Unknown = (narrow.IsRecordType kind → ⊥) × (extended.IsExtendedType kind → ⊥)
IsPlain kind body (says.Wrong at) =
    (narrow.IsRecordType kind × narrow.BodyFault kind body at)
    ⊎ (extended.IsExtendedType kind × TextFault (extended.BodyOf kind) body at)
