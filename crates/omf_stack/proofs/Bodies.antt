-- Each record of the modules fits a frame.
use Rattle.std.proofs.Common.{◌≡◌, ℕ, ◌<◌, ◌≤◌, true, false, cond, eqb, [], ◌∷◌, refl, arith}
use Rattle.std.proofs.Common.{lit<, lit≤}
use Rattle.std.specs.Prelude.{codes}
use Rattle.std.proofs.lemmas.Bool.{eqb-false}
use Rattle.std.specs.List.{flat_map}
use Rattle.omf_record.specs.declared.segments.SegmentDefinition.{SegmentDefinition}
use Rattle.omf_record.specs.declared.segments.SegmentLength.{SegmentLength}
use Rattle.omf_record.specs.declared.segments.Alignment.TheVariants as align
use Rattle.omf_record.specs.declared.segments.Combination.TheVariants as combine
use Rattle.omf_record.specs.declared.segments.SegmentLength.TheVariants as len
use Rattle.omf_record.specs.Record.{Grpdef, Lnames, Segdef, Theadr}
use Rattle.omf_record.specs.Body.{Body}
use Rattle.omf_record.specs.inside.Fields.{ComponentText}
use Rattle.omf_record.specs.Canonical as canon
use Rattle.omf_record.specs.Canonical.{FitsFrame, canonical}
use Rattle.omf_write.specs.inside.Fits.{IsName}
use Rattle.omf_write.proofs.Bodies.{each_text, header_fits, index_text, joined, names_fit, segment_by}
use Rattle.omf_write.specs.Segments.{length_of}
use Rattle.omf_stack.specs.Records.{dgroup, new_definition, part_definition, stack_name}

dgroup_name : IsName dgroup
dgroup_name = (lit≤ tt, (lit< tt, (lit< tt, (lit< tt, (lit< tt, (lit< tt, (lit< tt, tt)))))))

is_stack_name : IsName stack_name
is_stack_name = (lit≤ tt, (lit< tt, (lit< tt, (lit< tt, (lit< tt, (lit< tt, tt))))))

header_name : IsName (codes "stack")
header_name = (lit≤ tt, (lit< tt, (lit< tt, (lit< tt, (lit< tt, (lit< tt, tt))))))

pub own_header_fits : FitsFrame (Theadr (codes "stack"))
own_header_fits = header_fits (codes "stack") header_name

pub new_names_fit : FitsFrame (Lnames (dgroup ∷ stack_name ∷ []))
new_names_fit = names_fit dgroup stack_name dgroup_name is_stack_name

pub group_fits : FitsFrame (Grpdef 1 (1 ∷ []))
unfolding Body canonical
group_fits = record {
  body =
      joined (canon.index 1) (flat_map canon.component (1 ∷ [])) (index_text 1 (lit≤ tt))
      (each_text ComponentText canon.component (1 ∷ [])
      (joined (0xFF ∷ []) (canon.index 1) (lit< tt, refl) (index_text 1 (lit≤ tt)), tt));
  short = lit≤ tt;
}

below : (n : ℕ) → n ≤ 65536 → eqb n 65536 ≡ false → n < 65536
below n h e = let other = eqb-false n 65536 e in omega (arith, other)

-- a definition of a length of at most 65,536 bytes
by_length : (definition : SegmentLength → SegmentDefinition) → FitsFrame (Segdef (definition len.Whole)) →
    ((n : ℕ) → n < 65536 → FitsFrame (Segdef (definition (len.Word n)))) →
    (n : ℕ) → n ≤ 65536 → FitsFrame (Segdef (definition (length_of n)))
by_length definition whole word n h =
    (elim (eqb n 65536) as (λ b. eqb n 65536 ≡ b → FitsFrame (Segdef (definition (cond b len.Whole (len.Word n))))) [
      | true ↦ λ e. whole
      | false ↦ λ e. word n (below n h e)
    ]) refl

abbrev part_with : SegmentLength → SegmentDefinition
part_with l = record {
  alignment = align.Byte;
  combination = combine.Stack;
  length = l;
  name = 1;
  class = 2;
  overlay = 0;
}

abbrev new_with : SegmentLength → SegmentDefinition
new_with l = record {
  alignment = align.Paragraph;
  combination = combine.Stack;
  length = l;
  name = 2;
  class = 2;
  overlay = 0;
}

pub part_fits : (n : ℕ) → n ≤ 65536 → FitsFrame (Segdef (part_definition n))
part_fits n h = by_length part_with
    (segment_by (part_with len.Whole) (54, lit< tt, (refl, refl, refl, refl), refl) refl refl (lit< tt, refl) (lit≤ tt)
    (lit≤ tt) (lit≤ tt))
    (λ m small.
    segment_by (part_with (len.Word m)) (52, lit< tt, (refl, refl, refl, refl), refl) refl refl (small, refl) (lit≤ tt)
    (lit≤ tt) (lit≤ tt)) n h

pub new_fits : (n : ℕ) → n ≤ 65536 → FitsFrame (Segdef (new_definition n))
new_fits n h = by_length new_with
    (segment_by (new_with len.Whole) (118, lit< tt, (refl, refl, refl, refl), refl) refl refl (lit< tt, refl) (lit≤ tt)
    (lit≤ tt) (lit≤ tt))
    (λ m small.
    segment_by (new_with (len.Word m)) (116, lit< tt, (refl, refl, refl, refl), refl) refl refl (small, refl) (lit≤ tt)
    (lit≤ tt) (lit≤ tt)) n h
