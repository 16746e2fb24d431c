-- The laws of records, from those of the parts of their bodies.
use Rattle.std.proofs.Common.{◌≡◌, ℕ, ◌≤◌, List, [], length, refl, sym, ap, subst, ◌∙◌, Result, Ok, Err, arith}
use Rattle.std.specs.Prelude.{IfOk}
use Rattle.omf_record.specs.declared.parse.RecordFault.{RecordFault}
use Rattle.omf_record.specs.declared.parse.RecordFault.TheVariants as fault
use Rattle.omf_record.specs.declared.record.Record as code
use Rattle.omf_record.specs.Answer.{Answers, IsRead}
use Rattle.omf_record.specs.View.{view}
use Rattle.omf_record.specs.Language.{IsBytes}
use Rattle.omf_record.specs.Record.{Record, Theadr, Coment, Extdef, Pubdef, Linnum, Lnames, Grpdef, Fixupp, Ledata}
use Rattle.omf_record.specs.Record.{Lidata, Segdef, Modend}
use Rattle.omf_record.specs.Body.{Body, BodyOf, kind_of, ReferenceText}
use Rattle.omf_record.specs.Canonical.{canonical, FitsFrame, reference}
use Rattle.omf_record.specs.Expansion.{data_len}
use Rattle.omf_record.proofs.Stored.{data_within}
use Rattle.omf_codec.specs.inside.Format.{Format, Lawful, IsFree, IsFilled}
use Rattle.omf_codec.specs.inside.FormatLaws.{both, both_lawful, each_lawful}
use Rattle.omf_codec.specs.inside.PrimitiveLaws.{byte, byte_lawful, word, word_lawful, index, index_lawful, name}
use Rattle.omf_codec.specs.inside.PrimitiveLaws.{name_lawful, name_filled, rest_of, rest_lawful}
use Rattle.omf_record.specs.inside.Shapes.{external, external_lawful, external_filled, public, public_lawful}
use Rattle.omf_record.specs.inside.Shapes.{public_filled, base, base_lawful, line, line_lawful, line_filled, component}
use Rattle.omf_record.specs.inside.Shapes.{component_lawful, component_filled}
use Rattle.omf_record.specs.inside.Subrecords.{subrecord, subrecord_lawful, subrecord_filled}
use Rattle.omf_record.specs.inside.Segments.{segment_lawful}
use Rattle.omf_record.specs.inside.Ends.{end_lawful}
use Rattle.omf_record.specs.inside.References.{reference_lawful}
use Rattle.omf_record.specs.inside.Blocks.{block, block_lawful, block_filled}
use Rattle.omf_record.specs.inside.Kinds.{layout_of, list, body}

list_lawful : {I A : Type 0} (F : Format I A) → Lawful F → IsFilled F → IsFree F → Lawful (list ℕ F)
list_lawful F law filled unended = each_lawful F (λ v. v.items) law unended filled

lawful : (r : Record) → Lawful (layout_of ℕ r).parts
lawful (Theadr _) = name_lawful
lawful (Coment _ _ _) =
    both_lawful byte byte_lawful (λ r. tt) (both byte rest_of)
    (both_lawful byte byte_lawful (λ r. tt) rest_of rest_lawful)
lawful (Modend _ _) = end_lawful ReferenceText reference reference_lawful
lawful (Extdef _ _) = list_lawful external external_lawful external_filled (λ r. tt)
lawful (Pubdef _ _ _) =
    both_lawful base base_lawful (λ r. tt) (list ℕ public) (list_lawful public public_lawful public_filled (λ r. tt))
lawful (Linnum _ _ _) =
    both_lawful index index_lawful (λ r. tt) (both index (list ℕ line))
    (both_lawful index index_lawful (λ r. tt) (list ℕ line) (list_lawful line line_lawful line_filled (λ r. tt)))
lawful (Lnames _) = list_lawful name name_lawful name_filled (λ r. tt)
lawful (Segdef _) = segment_lawful
lawful (Grpdef _ _) =
    both_lawful index index_lawful (λ r. tt) (list ℕ component)
    (list_lawful component component_lawful component_filled (λ r. tt))
lawful (Fixupp _) = list_lawful subrecord subrecord_lawful subrecord_filled (λ r. tt)
lawful (Ledata _ _ _) =
    both_lawful index index_lawful (λ r. tt) (both word rest_of)
    (both_lawful word word_lawful (λ r. tt) rest_of rest_lawful)
lawful (Lidata _ _ _) =
    both_lawful index index_lawful (λ r. tt) (both word (list ℕ (block {A = ℕ} 63)))
    (both_lawful word word_lawful (λ r. tt) (list ℕ (block {A = ℕ} 63))
    (list_lawful (block {A = ℕ} 63) (block_lawful 63) (block_filled 63) (λ r. tt)))

-- a body says at most one thing of each type
pub one_of : (kind : ℕ) (text : List ℕ) (r s : Record) → BodyOf kind r text → BodyOf kind s text → r ≡ s
one_of kind text r s l m =
    let of = body ℕ r (kind_of r) refl in
    let (x, x-is, xl) = of.from r text (refl, l.1) in
    let (y, y-is, yl) = of.from s text (m.0 ∙ sym l.0, m.1) in
    sym x-is ∙ ap of.made ((lawful r).one x y text text [] [] xl yl of.ending.ended of.ending.ended refl).0 ∙ y-is

-- the canonical body is one, and none is shorter
pub canonical_shortest : (r : Record) (text : List ℕ) → Body r text
    → Body r (canonical r) × (length (canonical r) ≤ length text)
canonical_shortest r text l =
    let of = body ℕ r (kind_of r) refl in
    let (x, x-is, xl) = of.from r text (refl, l) in
    let a = (lawful r).shortest x text xl in
    let c = (layout_of ℕ r).parts.canonical x in
    let is : c ≡ canonical r = of.same x ∙ ap canonical x-is in (
      subst (Body r) is (subst (λ z. Body z c) x-is (of.to x c a.0).1),
      subst (λ (t : List ℕ). length t ≤ length text) is
          a.1,
    )

pub body_bytes : (r : Record) (text : List ℕ) → Body r text → IsBytes text
body_bytes r text l =
    let (x, x-is, xl) = (body ℕ r (kind_of r) refl).from r text (refl, l) in (lawful r).bytes x text xl

-- what is answered for a canonical body is the record that it was written for
pub is_read : {A : Type 0} (r : Record) (answer : Result (code.Record A) RecordFault) → FitsFrame r
    → Answers (kind_of r) (canonical r) answer → IsRead r answer
is_read r (Ok answer) fits answers = one_of (kind_of r) (canonical r) (view answer) r answers (refl, fits.body)
is_read r (Err fault.Memory) fits answers = tt
is_read r (Err fault.OtherType) fits answers = answers (r, canonical r, (refl, fits.body))
is_read r (Err (fault.Body at)) fits answers = answers.1.none r (refl, fits.body)

-- what was read can be written again
pub read_fits : {A : Type 0} (kind : ℕ) (text : List ℕ) (result : Result (code.Record A) RecordFault)
    → Answers kind text result → length text ≤ 65534 → IfOk result (λ r. FitsFrame (view r))
read_fits kind text (Ok r) b le =
    let a = canonical_shortest (view r) text b.1 in record { body = a.0; short = omega (arith, a.1, le) }
read_fits kind text (Err e) b le = tt

pub read_stored : {A : Type 0} (result : Result (code.Record A) RecordFault) → IfOk result (λ r. FitsFrame (view r))
    → IfOk result (λ r. data_len (view r) ≤ 65534)
read_stored (Ok r) fits = omega (arith, data_within (view r), fits.short)
read_stored (Err e) fits = tt
