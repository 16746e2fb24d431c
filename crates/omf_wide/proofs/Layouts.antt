-- What the parts of a body say.
use Rattle.std.proofs.Common.{◌≡◌, ℕ, ◌<◌, Bool, true, false, List, [], ◌∷◌, map, Vec, Bor, Option, Some, None, refl}
use Rattle.std.proofs.Common.{sym, ap, subst, ◌∙◌, arith}
use Rattle.std.specs.List.{AllByRecursion}
use Rattle.omf_codec.specs.Language.{◌⋆◌ as Joined, each, Little, Name, Index, Word, width_of}
use Rattle.omf_codec.specs.inside.Format.{Format}
use Rattle.omf_codec.specs.inside.FormatLaws.{both, to_end}
use Rattle.omf_codec.specs.inside.Heads.{joined}
use Rattle.omf_codec.specs.inside.Numbers.{double, long}
use Rattle.omf_codec.specs.inside.Wholes.{IsEnding}
use Rattle.omf_codec.specs.inside.PrimitiveLaws.{index, name, rest_of, word}
use Rattle.omf_record.specs.Body as narrow
use Rattle.omf_record.specs.Record as record'
use Rattle.omf_record.specs.Record.{Record, Public, Theadr, Extdef, Pubdef, Linnum, Lnames, Ledata}
use Rattle.omf_record.specs.declared.externals.Line.{Line}
use Rattle.omf_record.specs.declared.externals.PublicBase.{PublicBase}
use Rattle.omf_record.specs.inside.Ends.{module_end, EndText}
use Rattle.omf_record.specs.inside.Shapes.{base, external}
use Rattle.omf_wide.specs.Body.{Body, BodyOf, NarrowBodyOf, Fits16Bits, kind_of, ReferenceAt, fixupp_kind, modend_kind}
use Rattle.omf_wide.specs.Body.{segdef_kind}
use Rattle.omf_wide.specs.Said.{Said, Plain, Fixupp, Modend, Cextdef, Segdef}
use Rattle.omf_wide.specs.declared.fixups.WideReference.{WideReference}
use Rattle.omf_wide.specs.inside.Kinds.{IsBody, IsNarrowBody}
use Rattle.omf_wide.specs.inside.Publics.{public, PublicText, line, LineText, listed}
use Rattle.omf_wide.specs.inside.References.{reference_text}
use Rattle.omf_wide.specs.inside.Segments.{segment, segment_of}
use Rattle.omf_wide.specs.inside.Subrecords.{subrecord}
use Rattle.omf_wide.proofs.Lists.{each_map, each_unmap, each_narrow, each_wide, map_back}

-- fields of one kind to the end
abbrev pub list : (A : Type 0) {I V : Type 0} → Format I V → Format (Vec I A) (List V)
list A F = to_end F (λ v. v.items)

-- a public and a line by their parts
abbrev public_of : List ℕ × (ℕ × ℕ) → Public
public_of x = record { name = x.0; offset = x.1.0; type_index = x.1.1 }

abbrev public_parts : Public → List ℕ × (ℕ × ℕ)
public_parts p = (p.name, (p.offset, p.type_index))

abbrev line_of : ℕ × ℕ → Line
line_of x = record { number = x.0; offset = x.1 }

abbrev line_parts : Line → ℕ × ℕ
line_parts l = (l.number, l.offset)

-- the texts of one with any offset
abbrev PublicAt : Public → List ℕ → Type 0
PublicAt p = Joined (Name p.name) (Joined (Little 4 p.offset) (Index p.type_index))

abbrev LineAt : Line → List ℕ → Type 0
LineAt l = Joined (Word l.number) (Little 4 l.offset)

-- the parts of a body, and what they make
pub record Layout : Type 1 where
  pub I : Type 0
  pub P : Type 0
  pub parts : Format I P
  pub made : P → Said

abbrev pub layout : {I P : Type 0} → Format I P → (P → Said) → Layout
layout {I} {P} F made = record { I = I; P = P; parts = F; made = made }

-- the body of the type of what is said; where there is none, any
abbrev pub layout_of : (A : Type 0) → Said → Layout
layout_of A (Plain (Lnames _)) = layout (list A name) (λ ns. Plain (Lnames ns))
layout_of A (Plain (Extdef local _)) = layout (list A external) (λ es. Plain (Extdef local es))
layout_of A (Plain (Pubdef local _ _)) =
    layout (both base (list A (both name (both double index)))) (λ x. Plain (Pubdef local x.0 (map public_of x.1)))
layout_of A (Plain (Linnum _ _ _)) =
    layout (both index (both index (list A (both word double))))
    (λ x. Plain (Linnum x.0 x.1.0 (map line_of x.1.1)))
layout_of A (Plain (Ledata _ _ _)) =
    layout (both index (both double rest_of)) (λ x. Plain (Ledata x.0 x.1.0 x.1.1))
layout_of A (Fixupp wide _) = layout (list A (subrecord wide)) (λ ss. Fixupp wide ss)
layout_of A (Modend wide _ _) =
    layout (module_end (ReferenceAt (width_of wide)) (reference_text wide)) (λ x. Modend wide x.0 x.1)
layout_of A (Segdef wide _) = layout (segment wide) (λ s. Segdef wide s)
layout_of A (Cextdef _) = layout (list A listed) (λ es. Cextdef es)
layout_of A _ = layout name (λ n. Plain (Theadr n))

publics_from : (A : Type 0) (local : Bool) (b : PublicBase) (ps : List Public) (text : List ℕ)
    → Body (Plain (Pubdef local b ps)) text
    → (x : PublicBase × List (List ℕ × (ℕ × ℕ))) × (Plain (Pubdef local x.0 (map public_of x.1)) ≡ Plain (Pubdef local b ps))
    × (both base (list A (both name (both double index)))).Text x text
unfolding Body
publics_from A local b ps text j = (
  (b, map public_parts ps),
  ap (λ qs. Plain (Pubdef local b qs)) (map_back public_of public_parts (λ p. refl) ps),
  joined j j.first (each_unmap PublicAt public_of public_parts (λ p. refl) ps j.rest j.second),
)

lines_from : (A : Type 0) (g s : ℕ) (ls : List Line) (text : List ℕ) → Body (Plain (Linnum g s ls)) text
    → (x : ℕ × (ℕ × List (ℕ × ℕ))) × (Plain (Linnum x.0 x.1.0 (map line_of x.1.1)) ≡ Plain (Linnum g s ls))
    × (both index (both index (list A (both word double)))).Text x text
unfolding Body
lines_from A g s ls text j =
    let k = j.second in (
      (g, (s, map line_parts ls)),
      ap (λ ms. Plain (Linnum g s ms)) (map_back line_of line_parts (λ l. refl) ls),
      joined j j.first (joined k k.first (each_unmap LineAt line_of line_parts (λ l. refl) ls k.rest k.second)),
    )

end_from : (wide main : Bool) (start : Option WideReference) (text : List ℕ) → Body (Modend wide main start) text
    → EndText (ReferenceAt (width_of wide)) (reference_text wide) (main, start) text
unfolding Body
end_from wide main None text l = l
end_from wide main (Some r) text l = l

end_to : (wide : Bool) (x : Bool × Option WideReference) (text : List ℕ)
    → EndText (ReferenceAt (width_of wide)) (reference_text wide) x text → Body (Modend wide x.0 x.1) text
unfolding Body
end_to wide (main, None) text l = l
end_to wide (main, Some r) text l = l

-- what a record of the same type is made of
from : (A : Type 0) (r s : Said) (text : List ℕ) → kind_of s ≡ kind_of r → Body s text → (x : (layout_of A r).P)
    × ((layout_of A r).made x ≡ s) × (layout_of A r).parts.Text x text
unfolding Body narrow.Body
from A (Plain (Theadr _)) (Plain (Theadr n)) text e l = (n, refl, l)
from A (Plain (Lnames _)) (Plain (Lnames ns)) text e l = (ns, refl, l)
from A (Plain (Extdef true _)) (Plain (Extdef true es)) text e l = (es, refl, l)
from A (Plain (Pubdef true _ _)) (Plain (Pubdef true b ps)) text e l = publics_from A true b ps text l
from A (Plain (Pubdef false _ _)) (Plain (Pubdef false b ps)) text e l = publics_from A false b ps text l
from A (Plain (Linnum _ _ _)) (Plain (Linnum g s ls)) text e l = lines_from A g s ls text l
from A (Plain (Ledata _ _ _)) (Plain (Ledata s o b)) text e l = ((s, (o, b)), refl, l)
from A (Fixupp true _) (Fixupp true ss) text e l = (ss, refl, l)
from A (Fixupp false _) (Fixupp false ss) text e l = (ss, refl, l)
from A (Modend true _ _) (Modend true m t) text e l = ((m, t), refl, end_from true m t text l)
from A (Modend false _ _) (Modend false m t) text e l = ((m, t), refl, end_from false m t text l)
from A (Segdef true _) (Segdef true s) text e l = (s, refl, l)
from A (Segdef false _) (Segdef false s) text e l = (s, refl, l)
from A (Cextdef _) (Cextdef es) text e l = (es, refl, l)
from A _ (Plain (record'.Coment _ _ _)) text e l = absurd l
from A _ (Plain (record'.Modend _ _)) text e l = absurd l
from A _ (Plain (Extdef false _)) text e l = absurd l
from A _ (Plain (record'.Segdef _)) text e l = absurd l
from A _ (Plain (record'.Grpdef _ _)) text e l = absurd l
from A _ (Plain (record'.Fixupp _)) text e l = absurd l
from A _ (Plain (record'.Lidata _ _ _)) text e l = absurd l
from A _ (Plain (Extdef true _)) text e l = absurd (omega (arith, e))
from A _ (Plain (Pubdef true _ _)) text e l = absurd (omega (arith, e))
from A _ (Fixupp true _) text e l = absurd (omega (arith, e))
from A _ (Segdef true _) text e l = absurd (omega (arith, e))
from A _ (Modend true _ _) text e l = absurd (omega (arith, e))
from A _ _ text e l = absurd (omega (arith, e))

-- the body of the type of this record
pub body : (A : Type 0) (r : Said) (kind : ℕ) → 0 < kind → kind ≡ kind_of r → IsBody (layout_of A r).parts kind
unfolding Body narrow.Body
body A (Plain (Pubdef local b ps)) kind some k = record {
  made = λ x. Plain (Pubdef local x.0 (map public_of x.1));
  to = λ x text j. (sym k, joined j j.first (each_map PublicAt public_of x.1 j.rest j.second));
  from = λ s text m. from A (Plain (Pubdef local b ps)) s text (m.0 ∙ k) m.1;
  ending = record { ended = refl; goes_on = λ a b s t e. grind (arith, e) };
}
body A (Plain (Linnum g q ls)) kind some k = record {
  made = λ x. Plain (Linnum x.0 x.1.0 (map line_of x.1.1));
  to = λ x text j.
      let i = j.second in
      (sym k, joined j j.first (joined i i.first (each_map LineAt line_of x.1.1 i.rest i.second)));
  from = λ s text m. from A (Plain (Linnum g q ls)) s text (m.0 ∙ k) m.1;
  ending = record { ended = refl; goes_on = λ a b s t e. grind (arith, e) };
}
body A (Modend wide m t) kind some k = record {
  made = λ x. Modend wide x.0 x.1;
  to = λ x text l. (sym k, end_to wide x text l);
  from = λ s text n. from A (Modend wide m t) s text (n.0 ∙ k) n.1;
  ending = record { ended = tt; goes_on = λ a b s t e. tt };
}
body A (Plain (Extdef false _)) kind some k = absurd (omega (arith, some, k))
body A (Plain (record'.Coment _ _ _)) kind some k = absurd (omega (arith, some, k))
body A (Plain (record'.Modend _ _)) kind some k = absurd (omega (arith, some, k))
body A (Plain (record'.Segdef _)) kind some k = absurd (omega (arith, some, k))
body A (Plain (record'.Grpdef _ _)) kind some k = absurd (omega (arith, some, k))
body A (Plain (record'.Fixupp _)) kind some k = absurd (omega (arith, some, k))
body A (Plain (record'.Lidata _ _ _)) kind some k = absurd (omega (arith, some, k))
body A r kind some k = record {
  made = (layout_of A r).made;
  to = λ x text l. (sym k, l);
  from = λ s text m. from A r s text (m.0 ∙ k) m.1;
  ending = record { ended = grind arith; goes_on = λ a b s t e. grind (arith, e) };
}

-- ---- numbers of 16 bits

-- the bodies of the type of this record whose numbers have 16 bits are what other parts spell
narrowed : {I P : Type 0} (A : Type 0) (r : Said) (kind : ℕ) → kind ≡ kind_of r → (N : Format I P) (made : P → Said)
    → ((x : P) (text : List ℕ) → N.Text x text → NarrowBodyOf kind (made x) text)
    → ((x : (layout_of A r).P) (text : List ℕ) → Fits16Bits ((layout_of A r).made x)
    → (layout_of A r).parts.Text x text → (y : P) × N.Text y text) → IsEnding N → IsNarrowBody N kind
narrowed A r kind k N made to back ending = record {
  made = made;
  to = to;
  from =
      λ s text m.
      let (x, x-is, l) = from A r s text (m.1.0 ∙ k) m.1.1 in
      back x text (subst Fits16Bits (sym x-is) m.0) l;
  ending = ending;
}

pub ledata_narrow : IsNarrowBody (both index (both long rest_of)) 0xA1
unfolding Body
ledata_narrow =
    narrowed ℕ (Plain (Ledata 0 0 [])) 0xA1 refl (both index (both long rest_of))
    (λ x. Plain (Ledata x.0 x.1.0 x.1.1))
    (λ x text j. (j.second.first.0, (refl, joined j j.first (joined j.second j.second.first.1 j.second.second))))
    (λ x text f j. (x, joined j j.first (joined j.second (f, j.second.first) j.second.second)))
    (record { ended = refl; goes_on = λ a b s t e. grind (arith, e) })

-- the offset of a public, or of a line, has 16 bits
abbrev FitsPublic : Public → Type 0
FitsPublic p = p.offset < 65536

public_wide : (p : Public) (text : List ℕ) → PublicText p text → FitsPublic p × PublicAt p text
public_wide p text j = (j.second.first.0, joined j j.first (joined j.second j.second.first.1 j.second.second))

public_narrow : (p : Public) (text : List ℕ) → FitsPublic p → PublicAt p text → PublicText p text
public_narrow p text f j = joined j j.first (joined j.second (f, j.second.first) j.second.second)

abbrev FitsLine : Line → Type 0
FitsLine l = l.offset < 65536

line_wide : (x : Line) (text : List ℕ) → LineText x text → FitsLine x × LineAt x text
line_wide x text j = (j.second.0, joined j j.first j.second.1)

line_narrow : (x : Line) (text : List ℕ) → FitsLine x → LineAt x text → LineText x text
line_narrow x text f j = joined j j.first (f, j.second)

pub pubdef_to : (A : Type 0) (local : Bool) (kind : ℕ) (x : PublicBase × List Public) (text : List ℕ)
    → kind ≡ kind_of (Plain (Pubdef local x.0 [])) → (both base (list A public)).Text x text
    → NarrowBodyOf kind (Plain (Pubdef local x.0 x.1)) text
unfolding Body
pubdef_to A local kind x text k j =
    let all = each_wide PublicText PublicAt FitsPublic public_wide x.1 j.rest j.second in
    (all.0, (sym k, joined j j.first all.1))

pub pubdef_narrow : (A : Type 0) (local : Bool) (b : PublicBase) (kind : ℕ)
    → kind ≡ kind_of (Plain (Pubdef local b [])) → IsNarrowBody (both base (list A public)) kind
unfolding Body
pubdef_narrow A local b kind k =
    narrowed A (Plain (Pubdef local b [])) kind k (both base (list A public)) (λ x. Plain (Pubdef local x.0 x.1))
    (λ x text j. pubdef_to A local kind x text k j)
    (λ x text f j. (
      (x.0, map public_of x.1),
      joined j j.first
          (each_narrow PublicText PublicAt FitsPublic public_narrow (map public_of x.1) j.rest f
          (each_map PublicAt public_of x.1 j.rest j.second)),
    ))
    (record { ended = refl; goes_on = λ a b s t e. grind (arith, e) })

pub linnum_to : (A : Type 0) (x : ℕ × (ℕ × List Line)) (text : List ℕ)
    → (both index (both index (list A line))).Text x text → NarrowBodyOf 0x95 (Plain (Linnum x.0 x.1.0 x.1.1)) text
unfolding Body
linnum_to A x text j =
    let k = j.second in
    let all = each_wide LineText LineAt FitsLine line_wide x.1.1 k.rest k.second in
    (all.0, (refl, joined j j.first (joined k k.first all.1)))

pub linnum_narrow : (A : Type 0) → IsNarrowBody (both index (both index (list A line))) 0x95
unfolding Body
linnum_narrow A =
    narrowed A (Plain (Linnum 0 0 [])) 0x95 refl (both index (both index (list A line)))
    (λ x. Plain (Linnum x.0 x.1.0 x.1.1)) (linnum_to A)
    (λ x text f j.
    let k = j.second in (
      (x.0, (x.1.0, map line_of x.1.1)),
      joined j j.first
          (joined k k.first
          (each_narrow LineText LineAt FitsLine line_narrow (map line_of x.1.1) k.rest f
          (each_map LineAt line_of x.1.1 k.rest k.second))),
    ))
    (record { ended = refl; goes_on = λ a b s t e. grind (arith, e) })

-- ---- the bodies of types whose parts name no allocator, or name it first

pub lheadr_body : IsBody name 0x82
lheadr_body = body ℕ (Plain (Theadr [])) 0x82 (omega arith) refl

pub llnames_body : {A : Type 0} → IsBody (list A name) 0xCA
llnames_body {A} = body A (Plain (Lnames [])) 0xCA (omega arith) refl

pub lextdef_body : {A : Type 0} → IsBody (list A external) 0xB5
lextdef_body {A} = body A (Plain (Extdef true [])) 0xB5 (omega arith) refl

pub cextdef_body : {A : Type 0} → IsBody (list A listed) 0xBC
cextdef_body {A} = body A (Cextdef []) 0xBC (omega arith) refl

pub ledata_body : IsBody (both index (both double rest_of)) 0xA1
ledata_body = body ℕ (Plain (Ledata 0 0 [])) 0xA1 (omega arith) refl

pub fixupp_body : {A : Type 0} (wide : Bool) → IsBody (list A (subrecord wide)) (fixupp_kind wide)
fixupp_body {A} true = body A (Fixupp true []) 0x9D (omega arith) refl
fixupp_body {A} false = body A (Fixupp false []) 0x9C (omega arith) refl

pub modend_body : (wide : Bool) → IsBody (module_end (ReferenceAt (width_of wide)) (reference_text wide)) (modend_kind wide)
modend_body true = body ℕ (Modend true true None) 0x8B (omega arith) refl
modend_body false = body ℕ (Modend false true None) 0x8A (omega arith) refl

pub segdef_body : (wide : Bool) → IsBody (segment wide) (segdef_kind wide)
segdef_body true = body ℕ (Segdef true (segment_of 0 (None, (0, (0, (0, 0)))))) 0x99 (omega arith) refl
segdef_body false = body ℕ (Segdef false (segment_of 0 (None, (0, (0, (0, 0)))))) 0x98 (omega arith) refl
