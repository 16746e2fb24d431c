-- The canonical bodies of the records of the module, and that each fits a frame.
use Rattle.std.proofs.Common.{◌≡◌, ℕ, ◌+◌, ◌<◌, ◌≤◌, Bool, true, false, cond, eqb, List, [], ◌∷◌, ◌++◌, refl}
use Rattle.std.proofs.Common.{arith, length-append, lit<, lit≤}
use Rattle.std.specs.Prelude.{codes}
use Rattle.std.proofs.lemmas.Bool.{eqb-false}
use Rattle.std.specs.List.{flat_map}
use Rattle.omf_record.specs.declared.segments.SegmentDefinition.{SegmentDefinition}
use Rattle.omf_record.specs.declared.segments.SegmentLength.{SegmentLength}
use Rattle.omf_record.specs.declared.externals.PublicBase.TheVariants.{InSegment}
use Rattle.omf_record.specs.declared.segments.Alignment.TheVariants as align
use Rattle.omf_record.specs.declared.segments.Combination.TheVariants as combine
use Rattle.omf_record.specs.declared.segments.SegmentLength.TheVariants as len
use Rattle.omf_record.specs.Record.{Grpdef, Segdef, Pubdef, Public, Theadr}
use Rattle.omf_record.specs.Body.{Body, BaseText}
use Rattle.omf_record.specs.inside.Fields.{ComponentText, PublicText}
use Rattle.omf_record.specs.Canonical as canon
use Rattle.omf_record.specs.Canonical.{FitsFrame, canonical}
use Rattle.omf_write.specs.inside.Fits.{IsName}
use Rattle.omf_write.proofs.Bodies.{each_text, header_fits, index_len, index_text, joined, name_text, names_fit}
use Rattle.omf_write.proofs.Bodies.{segment_by}
use Rattle.omf_write.specs.Segments.{length_of}
use Rattle.omf_communal.specs.declared.places.Before.{Before}
use Rattle.omf_communal.specs.Records.{dgroup, far_definition, far_names, near_definition, near_name}
use Rattle.omf_communal.specs.Records.{near_names}

-- ---- names

dgroup_name : IsName dgroup
dgroup_name = (lit≤ tt, (lit< tt, (lit< tt, (lit< tt, (lit< tt, (lit< tt, (lit< tt, tt)))))))

is_near_name : (in_bss : Bool) → IsName (near_name in_bss)
is_near_name true = (lit≤ tt, (lit< tt, (lit< tt, (lit< tt, (lit< tt, tt)))))
is_near_name false =
    (lit≤ tt, (lit< tt, (lit< tt, (lit< tt, (lit< tt, (lit< tt, (lit< tt, (lit< tt, (lit< tt, tt)))))))))

bss_name : IsName (codes "BSS")
bss_name = (lit≤ tt, (lit< tt, (lit< tt, (lit< tt, tt))))

far_name : IsName (codes "FAR_BSS")
far_name = (lit≤ tt, (lit< tt, (lit< tt, (lit< tt, (lit< tt, (lit< tt, (lit< tt, (lit< tt, tt))))))))

header_name : IsName (codes "communal")
header_name = (lit≤ tt, (lit< tt, (lit< tt, (lit< tt, (lit< tt, (lit< tt, (lit< tt, (lit< tt, (lit< tt, tt)))))))))

pub own_header_fits : FitsFrame (Theadr (codes "communal"))
own_header_fits = header_fits (codes "communal") header_name

pub near_names_fit : (in_bss : Bool) → FitsFrame (near_names in_bss)
near_names_fit in_bss = names_fit dgroup (near_name in_bss) dgroup_name (is_near_name in_bss)

pub far_names_fit : FitsFrame far_names
far_names_fit = names_fit (codes "BSS") (codes "FAR_BSS") bss_name far_name

pub group_fits : (name segment : ℕ) → name ≤ 32767 → segment ≤ 32767 → FitsFrame (Grpdef name (segment ∷ []))
unfolding Body canonical
group_fits name segment n s = record {
  body =
      joined (canon.index name) (flat_map canon.component (segment ∷ [])) (index_text name n)
      (each_text ComponentText canon.component (segment ∷ [])
      (joined (0xFF ∷ []) (canon.index segment) (lit< tt, refl) (index_text segment s), tt));
  short =
      omega (
        arith,
        length-append (canon.index name) (flat_map canon.component (segment ∷ [])),
        length-append (canon.component segment) [],
        index_len name,
        index_len segment,
      );
}

-- ---- SEGDEF

below : (n : ℕ) → n ≤ 65536 → eqb n 65536 ≡ false → n < 65536
below n h e = let other = eqb-false n 65536 e in omega (arith, other)

-- a definition of a length of at most 65,536 bytes
by_length : (definition : SegmentLength → SegmentDefinition) → FitsFrame (Segdef (definition len.Whole)) →
    ((n : ℕ) → n < 65536 → FitsFrame (Segdef (definition (len.Word n)))) →
    (n : ℕ) → n ≤ 65536 → FitsFrame (Segdef (definition (length_of n)))
by_length definition whole word n h =
    (elim (eqb n 65536) as (λ b. eqb n 65536 ≡ b → FitsFrame (Segdef (definition (cond b len.Whole (len.Word n))))) [
      | true ↦ λ e. whole
      | false ↦ λ e. word n (below n h e)
    ]) refl

abbrev near_with : Before → SegmentLength → SegmentDefinition
near_with before l = record {
  alignment = align.Word;
  combination = combine.Public2;
  length = l;
  name = before.names + 2;
  class = before.names + 3;
  overlay = 0;
}

abbrev far_with : Before → SegmentLength → SegmentDefinition
far_with before l = record {
  alignment = align.Paragraph;
  combination = combine.Private;
  length = l;
  name = before.names + 4;
  class = before.names + 4;
  overlay = 0;
}

pub near_fits : (before : Before) (n : ℕ) → before.names + 4 ≤ 32767 → n ≤ 65536
    → FitsFrame (Segdef (near_definition before n))
near_fits before n room h = by_length (near_with before)
    (segment_by (near_with before len.Whole) (74, lit< tt, (refl, refl, refl, refl), refl) refl refl (lit< tt, refl)
    (omega (arith, room)) (omega (arith, room)) (lit≤ tt))
    (λ m small.
    segment_by (near_with before (len.Word m)) (72, lit< tt, (refl, refl, refl, refl), refl) refl refl (small, refl)
    (omega (arith, room)) (omega (arith, room)) (lit≤ tt)) n h

pub far_fits : (before : Before) (n : ℕ) → before.names + 4 ≤ 32767 → n ≤ 65536
    → FitsFrame (Segdef (far_definition before n))
far_fits before n room h = by_length (far_with before)
    (segment_by (far_with before len.Whole) (98, lit< tt, (refl, refl, refl, refl), refl) refl refl (lit< tt, refl) room
    room (lit≤ tt))
    (λ m small.
    segment_by (far_with before (len.Word m)) (96, lit< tt, (refl, refl, refl, refl), refl) refl refl (small, refl) room
    room (lit≤ tt)) n h

-- ---- PUBDEF and LPUBDEF

pub public_fits : (local : Bool) (group segment offset : ℕ) (name : List ℕ) → group ≤ 32767 → 0 < segment →
    segment ≤ 32767 → offset < 65536 → IsName name →
    FitsFrame (Pubdef local (InSegment group segment) (record { name = name; offset = offset; type_index = 0 } ∷ []))
unfolding Body canonical
public_fits local group segment offset name g positive small o named =
    let p : Public = record { name = name; offset = offset; type_index = 0 } in
    let front = canon.index group ++ canon.index segment in
    let base_text : BaseText (InSegment group segment) front =
    joined (canon.index group) (canon.index segment) (index_text group g) (positive, index_text segment small) in
    let text : PublicText p (canon.public p) =
    joined (canon.name name) (canon.word offset ++ canon.index 0) (name_text name named)
    (joined (canon.word offset) (canon.index 0) (o, refl) (index_text 0 (lit≤ tt))) in
    record {
      body =
          joined front (flat_map canon.public (p ∷ [])) base_text
          (each_text PublicText canon.public (p ∷ []) (text, tt));
      short = omega (
        arith,
        length-append front (flat_map canon.public (p ∷ [])),
        length-append (canon.index group) (canon.index segment),
        index_len group,
        index_len segment,
        length-append (canon.public p) [],
        length-append (canon.name name) (canon.word offset ++ canon.index 0),
        named.0,
      );
    }
