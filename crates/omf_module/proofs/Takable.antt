-- A record that bytes hold is one that a module may hold.
use Rattle.std.proofs.Common.{ℕ, ◌<◌, ◌≤◌, Bool, List, [], ◌∷◌, arith}
use Rattle.std.specs.List.{AllByRecursion}
use Rattle.omf_record.specs.Record.{Record, Public, External as ExternalName, Theadr, Coment, Modend, Extdef, Pubdef}
use Rattle.omf_record.specs.Record.{Linnum, Lnames, Segdef, Grpdef, Fixupp, Ledata, Lidata}
use Rattle.omf_record.specs.Language.{each, Word}
use Rattle.omf_record.specs.Body.{Body, BaseText, AbsoluteText}
use Rattle.omf_record.specs.Expansion.{data_len}
use Rattle.omf_record.specs.Numbers.{segment_len, length_code}
use Rattle.omf_record.specs.inside.Fields.{PublicText}
use Rattle.omf_record.specs.declared.externals.PublicBase.{PublicBase}
use Rattle.omf_record.specs.declared.externals.PublicBase.TheVariants as public_base
use Rattle.omf_record.specs.declared.segments.Alignment.{Alignment}
use Rattle.omf_record.specs.declared.segments.Alignment.TheVariants as align
use Rattle.omf_record.specs.declared.segments.SegmentLength.{SegmentLength}
use Rattle.omf_record.specs.declared.segments.SegmentLength.TheVariants as lengths
use Rattle.omf_module.specs.Building.{IsTakable, HasShortNames, FitsFields, HasWordFrame, HasWordAndByte}
use Rattle.omf_module.specs.Sound.{IsShort}

names_short : (listed : List (List ℕ)) (body : List ℕ) → Body (Lnames listed) body → AllByRecursion IsShort listed
unfolding Body
names_short [] body h = tt
names_short (n ∷ listed) body h = (h.first.0, names_short listed h.rest h.second)

externals_short : (local : Bool) (listed : List ExternalName) (body : List ℕ) → Body (Extdef local listed) body
    → AllByRecursion (λ (e : ExternalName). IsShort e.name) listed
unfolding Body
externals_short local [] body h = tt
externals_short local (n ∷ listed) body h = (h.first.first.0, externals_short local listed h.rest h.second)

abbrev AllPublics : List Public → List ℕ → Type 0
AllPublics = each PublicText

publics_short : (listed : List Public) (body : List ℕ) → AllPublics listed body
    → AllByRecursion (λ (p : Public). IsShort p.name) listed
publics_short [] body h = tt
publics_short (n ∷ listed) body h = (h.first.first.0, publics_short listed h.rest h.second)

offsets_fit : (listed : List Public) (body : List ℕ) → AllPublics listed body
    → AllByRecursion (λ (p : Public). p.offset < 65536) listed
offsets_fit [] body h = tt
offsets_fit (n ∷ listed) body h = (h.first.second.first.0, offsets_fit listed h.rest h.second)

pub names_of : (r : Record) (body : List ℕ) → Body r body → HasShortNames r
unfolding Body
names_of (Theadr name) body h = tt
names_of (Coment kind class bytes) body h = tt
names_of (Modend main start) body h = tt
names_of (Extdef local listed) body h = externals_short local listed body h
names_of (Pubdef local base listed) body h = publics_short listed h.rest h.second
names_of (Linnum group segment lines) body h = tt
names_of (Lnames listed) body h = names_short listed body h
names_of (Segdef s) body h = tt
names_of (Grpdef name segments) body h = tt
names_of (Fixupp subrecords) body h = tt
names_of (Ledata segment offset bytes) body h = tt
names_of (Lidata segment offset blocks) body h = tt

pub takable_of : (r : Record) (body : List ℕ) → Body r body → data_len r ≤ 65534 → IsTakable r
takable_of r body h len = record { names = names_of r body h; short = len }

length_fits : (l : SegmentLength) (text : List ℕ) → Word (length_code l).1 text → segment_len l ≤ 65536
length_fits (lengths.Word n) text h = omega (arith, h.0)
length_fits lengths.Whole text h = omega arith

alignment_fits : (a : Alignment) (text : List ℕ) → AbsoluteText a text → HasWordAndByte a
alignment_fits (align.Absolute frame offset) text h = (h.first.0, h.second.0)
alignment_fits align.Byte text h = tt
alignment_fits align.Word text h = tt
alignment_fits align.Paragraph text h = tt
alignment_fits align.Page text h = tt
alignment_fits align.DoubleWord text h = tt

frame_fits : (b : PublicBase) (text : List ℕ) → BaseText b text → HasWordFrame b
frame_fits (public_base.AtFrame group frame) text h = h.second.second.0
frame_fits (public_base.InSegment group segment) text h = tt

-- its numbers fit their fields
pub fields_of : (r : Record) (body : List ℕ) → Body r body → FitsFields r
unfolding Body
fields_of (Theadr name) body h = tt
fields_of (Coment kind class bytes) body h = tt
fields_of (Modend main start) body h = tt
fields_of (Extdef local listed) body h = tt
fields_of (Pubdef local base listed) body h = (frame_fits base _ h.first, offsets_fit listed h.rest h.second)
fields_of (Linnum group segment lines) body h = tt
fields_of (Lnames listed) body h = tt
fields_of (Segdef s) body h =
    (alignment_fits s.alignment _ h.second.first, length_fits s.length _ h.second.second.first)
fields_of (Grpdef name segments) body h = tt
fields_of (Fixupp subrecords) body h = tt
fields_of (Ledata segment offset bytes) body h = tt
fields_of (Lidata segment offset blocks) body h = tt
