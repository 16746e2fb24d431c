-- The bodies of each type, by their parts.
use Rattle.std.proofs.Common.{◌≡◌, ℕ, Bool, true, false, List, [], ◌∷◌, Option, Some, None, Vec, Result, Ok, Err, refl}
use Rattle.std.proofs.Common.{sym, ◌∙◌, arith}
use Rattle.omf_record.specs.declared.fixups.Reference.{Reference}
use Rattle.omf_record.specs.Answer.{Answers}
use Rattle.omf_record.specs.declared.parse.RecordFault.{RecordFault}
use Rattle.omf_record.specs.Record.{Record, Theadr, Coment, Modend, Extdef, Pubdef, Linnum, Lnames, Segdef, Grpdef}
use Rattle.omf_record.specs.Record.{Fixupp, Ledata, Lidata}
use Rattle.omf_record.specs.Body.{Body, BodyOf, kind_of, ReferenceText}
use Rattle.omf_record.specs.Canonical.{canonical, reference}
use Rattle.omf_codec.specs.inside.Format.{Format}
use Rattle.omf_codec.specs.inside.Wholes.{IsEnding}
use Rattle.omf_codec.specs.inside.FormatLaws.{both, to_end}
use Rattle.omf_codec.specs.inside.PrimitiveLaws.{byte, word, index, name, rest_of}
use Rattle.omf_record.specs.inside.Shapes.{external, public, base, line, component}
use Rattle.omf_record.specs.inside.Subrecords.{subrecord}
use Rattle.omf_record.specs.inside.Segments.{segment, segment_of}
use Rattle.omf_record.specs.inside.Blocks.{block}
use Rattle.omf_record.specs.inside.Ends.{module_end, EndText, end_text}

-- fields of one kind to the end
abbrev pub list : (A : Type 0) {I V : Type 0} → Format I V → Format (Vec I A) (List V)
list A F = to_end F (λ v. v.items)

-- the parts of a body, and what they make
pub record Layout : Type 1 where
  pub I : Type 0
  pub P : Type 0
  pub parts : Format I P
  pub made : P → Record

-- such parts, and what they make
abbrev pub layout : {I P : Type 0} → Format I P → (P → Record) → Layout
layout {I} {P} F made = record { I = I; P = P; parts = F; made = made }

-- the body of the type of this record
abbrev pub layout_of : (A : Type 0) → Record → Layout
layout_of A (Theadr _) = layout name Theadr
layout_of A (Coment _ _ _) = layout (both byte (both byte rest_of)) (λ x. Coment x.0 x.1.0 x.1.1)
layout_of A (Modend _ _) = layout (module_end ReferenceText reference) (λ x. Modend x.0 x.1)
layout_of A (Extdef local _) = layout (list A external) (Extdef local)
layout_of A (Pubdef local _ _) = layout (both base (list A public)) (λ x. Pubdef local x.0 x.1)
layout_of A (Linnum _ _ _) = layout (both index (both index (list A line))) (λ x. Linnum x.0 x.1.0 x.1.1)
layout_of A (Lnames _) = layout (list A name) Lnames
layout_of A (Segdef _) = layout segment Segdef
layout_of A (Grpdef _ _) = layout (both index (list A component)) (λ x. Grpdef x.0 x.1)
layout_of A (Fixupp _) = layout (list A subrecord) Fixupp
layout_of A (Ledata _ _ _) = layout (both index (both word rest_of)) (λ x. Ledata x.0 x.1.0 x.1.1)
layout_of A (Lidata _ _ _) = layout (both index (both word (list A (block {A = A} 63)))) (λ x. Lidata x.0 x.1.0 x.1.1)

-- what a record of the same type is made of
from : (A : Type 0) (r s : Record) (text : List ℕ) → kind_of s ≡ kind_of r → Body s text → (x : (layout_of A r).P)
    × ((layout_of A r).made x ≡ s) × (layout_of A r).parts.Text x text
unfolding Body
from A (Theadr _) (Theadr s) text e l = (s, refl, l)
from A (Coment _ _ _) (Coment k c b) text e l = ((k, (c, b)), refl, l)
from A (Modend _ _) (Modend main None) text e l = ((main, None), refl, l)
from A (Modend _ _) (Modend main (Some s)) text e l = ((main, Some s), refl, l)
from A (Extdef true _) (Extdef true ns) text e l = (ns, refl, l)
from A (Extdef false _) (Extdef false ns) text e l = (ns, refl, l)
from A (Pubdef true _ _) (Pubdef true b ps) text e l = ((b, ps), refl, l)
from A (Pubdef false _ _) (Pubdef false b ps) text e l = ((b, ps), refl, l)
from A (Linnum _ _ _) (Linnum g s ls) text e l = ((g, (s, ls)), refl, l)
from A (Lnames _) (Lnames ns) text e l = (ns, refl, l)
from A (Segdef _) (Segdef s) text e l = (s, refl, l)
from A (Grpdef _ _) (Grpdef n ss) text e l = ((n, ss), refl, l)
from A (Fixupp _) (Fixupp ss) text e l = (ss, refl, l)
from A (Ledata _ _ _) (Ledata s o b) text e l = ((s, (o, b)), refl, l)
from A (Lidata _ _ _) (Lidata s o bs) text e l = ((s, (o, bs)), refl, l)
from A _ (Extdef true _) text e l = absurd (omega (arith, e))
from A _ (Pubdef true _ _) text e l = absurd (omega (arith, e))
from A _ _ text e l = absurd (omega (arith, e))

end_to : (x : Bool × Option Reference) (text : List ℕ) → EndText ReferenceText reference x text → Body (Modend x.0 x.1) text
unfolding Body
end_to (main, None) text l = l
end_to (main, Some r) text l = l

end_same : (x : Bool × Option Reference) → end_text ReferenceText reference x ≡ canonical (Modend x.0 x.1)
unfolding canonical
end_same (main, None) = refl
end_same (main, Some r) = refl

-- The bodies of the type are what such parts spell. Behind them nothing may stand, or anything.
pub record IsBody {I P : Type 0} (F : Format I P) (kind : ℕ) : Type 0 where
  pub made : P → Record
  pub to : (x : P) (text : List ℕ) → F.Text x text → BodyOf kind (made x) text
  pub from : (r : Record) (text : List ℕ) → BodyOf kind r text → (x : P) × (made x ≡ r) × F.Text x text
  pub same : (x : P) → F.canonical x ≡ canonical (made x)
  pub ending : IsEnding F

-- the bodies of the type of this record
pub body : (A : Type 0) (r : Record) (kind : ℕ) → kind ≡ kind_of r → IsBody (layout_of A r).parts kind
unfolding Body canonical
body A (Modend m t) kind k = record {
  made = λ x. Modend x.0 x.1;
  to = λ x text l. (sym k, end_to x text l);
  from = λ s text b. from A (Modend m t) s text (b.0 ∙ k) b.1;
  same = end_same;
  ending = record { ended = tt; goes_on = λ a b s t e. tt };
}
body A r kind k = record {
  made = (layout_of A r).made;
  to = λ x text l. (sym k, l);
  from = λ s text b. from A r s text (b.0 ∙ k) b.1;
  same = λ x. refl;
  ending = record { ended = grind arith; goes_on = λ a b s t e. grind (arith, e) };
}

-- the body of each type whose parts name no allocator, or name it first
pub theadr_body : IsBody name 0x80
theadr_body = body ℕ (Theadr []) 0x80 refl

pub coment_body : IsBody (both byte (both byte rest_of)) 0x88
coment_body = body ℕ (Coment 0 0 []) 0x88 refl

pub modend_body : IsBody (module_end ReferenceText reference) 0x8A
modend_body = body ℕ (Modend true None) 0x8A refl

pub lnames_body : {A : Type 0} → IsBody (list A name) 0x96
lnames_body {A} = body A (Lnames []) 0x96 refl

pub segdef_body : IsBody segment 0x98
segdef_body = body ℕ (Segdef (segment_of 0 (None, ((None, None), (0, (0, 0)))))) 0x98 refl

pub fixupp_body : {A : Type 0} → IsBody (list A subrecord) 0x9C
fixupp_body {A} = body A (Fixupp []) 0x9C refl

pub ledata_body : IsBody (both index (both word rest_of)) 0xA0
ledata_body = body ℕ (Ledata 0 0 []) 0xA0 refl

-- the parts of the body; or the one fault that stands
abbrev pub ReadsParts : {I P : Type 0} → Format I P → ℕ → List ℕ → Result I RecordFault → Type 0
ReadsParts F kind bytes (Ok parts) = F.Text (F.view parts) bytes
ReadsParts F kind bytes (Err fault) = Answers {A = ℕ} kind bytes (Err fault)
