-- The canonical bodies of the records of the order module, and that each fits a frame.
use Rattle.std.proofs.Common.{ℕ, ◌+◌, ◌*◌, ◌<◌, ◌≤◌, Bool, true, false, replicate, cond, eqb, List, [], ◌∷◌, ◌++◌, length, map, Option}
use Rattle.std.proofs.Common.{None, Some, IfSome, refl, arith, length-append, lit<, lit≤}
use Rattle.std.proofs.lemmas.List.{length-map}
use Rattle.std.specs.List.{AllByRecursion, flat_map}
use Rattle.std.specs.Option.{option_to_list}
use Rattle.omf_module.specs.declared.Kind.{Kind}
use Rattle.omf_module.specs.declared.Kind.TheVariants as kind
use Rattle.omf_record.specs.Language.{IsBytes, Name}
use Rattle.omf_record.specs.declared.segments.Alignment.{Alignment}
use Rattle.omf_record.specs.declared.segments.SegmentDefinition.{SegmentDefinition}
use Rattle.omf_record.specs.declared.externals.PublicBase.TheVariants.{InSegment}
use Rattle.omf_record.specs.declared.segments.Alignment.TheVariants as align
use Rattle.omf_record.specs.declared.segments.SegmentLength.TheVariants as len
use Rattle.omf_record.specs.Record.{Lnames, Segdef, Grpdef, Pubdef}
use Rattle.omf_record.specs.Body.{Body, BaseText}
use Rattle.omf_record.specs.inside.Fields.{ComponentText, PublicText}
use Rattle.omf_record.specs.Canonical as canon
use Rattle.omf_record.specs.Canonical.{FitsFrame, canonical}
use Rattle.omf_order.specs.Parts.{Part}
use Rattle.omf_order.specs.Records.{alignment_of, combination_of, null_data, null_record, public_of, segment_index}
use Rattle.omf_order.specs.Records.{segment_record}
use Rattle.omf_write.specs.inside.Fits.{IsName}
use Rattle.omf_write.proofs.Bodies.{each_text, index_len, index_text, joined, name_text, segment_by}

pub name_fits : (a : List ℕ) → IsName a → FitsFrame (Lnames (a ∷ []))
unfolding Body canonical
name_fits a h = record {
  body = each_text Name canon.name (a ∷ []) (name_text a h, tt);
  short = omega (arith, h.0, length-append (canon.name a) []);
}

-- ---- SEGDEF

-- an alignment of a SEGDEF that isn't absolute
pub plain : (P : Alignment → Type 0) → P align.Byte → P align.Word → P align.DoubleWord → P align.Paragraph
    → P align.Page → (bytes : ℕ) → P (alignment_of bytes)
plain P b w d p g bytes =
    elim (eqb bytes 1) as (λ t.
    P (cond t align.Byte
    (cond (eqb bytes 2) align.Word
    (cond (eqb bytes 4) align.DoubleWord (cond (eqb bytes 16) align.Paragraph align.Page))))) [
      | true ↦ b
      | false ↦
          elim (eqb bytes 2) as (λ t.
          P (cond t align.Word
          (cond (eqb bytes 4) align.DoubleWord (cond (eqb bytes 16) align.Paragraph align.Page)))) [
            | true ↦ w
            | false ↦
                elim (eqb bytes 4) as (λ t.
                P (cond t align.DoubleWord (cond (eqb bytes 16) align.Paragraph align.Page))) [
                  | true ↦ d
                  | false ↦ elim (eqb bytes 16) as (λ t. P (cond t align.Paragraph align.Page)) [ true ↦ p | false ↦ g ]
                ]
          ]
    ]

abbrev with : (length name class : ℕ) → Kind → Alignment → SegmentDefinition
with length name class k a = record {
  alignment = a;
  combination = combination_of k;
  length = len.Word length;
  name = name;
  class = class;
  overlay = 0;
}

by_kind : (w name class : ℕ) → w < 65536 → name ≤ 32767 → class ≤ 32767 → (k : Kind) → (bytes : ℕ)
    → FitsFrame (Segdef (with w name class k (alignment_of bytes)))
by_kind w n c l h j kind.Private = plain (λ a. FitsFrame (Segdef (with w n c kind.Private a)))
    (segment_by _ (32, lit< tt, (refl, refl, refl, refl), refl) refl refl (l, refl) h j (lit≤ tt))
    (segment_by _ (64, lit< tt, (refl, refl, refl, refl), refl) refl refl (l, refl) h j (lit≤ tt))
    (segment_by _ (160, lit< tt, (refl, refl, refl, refl), refl) refl refl (l, refl) h j (lit≤ tt))
    (segment_by _ (96, lit< tt, (refl, refl, refl, refl), refl) refl refl (l, refl) h j (lit≤ tt))
    (segment_by _ (128, lit< tt, (refl, refl, refl, refl), refl) refl refl (l, refl) h j (lit≤ tt))
by_kind w n c l h j kind.Public = plain (λ a. FitsFrame (Segdef (with w n c kind.Public a)))
    (segment_by _ (40, lit< tt, (refl, refl, refl, refl), refl) refl refl (l, refl) h j (lit≤ tt))
    (segment_by _ (72, lit< tt, (refl, refl, refl, refl), refl) refl refl (l, refl) h j (lit≤ tt))
    (segment_by _ (168, lit< tt, (refl, refl, refl, refl), refl) refl refl (l, refl) h j (lit≤ tt))
    (segment_by _ (104, lit< tt, (refl, refl, refl, refl), refl) refl refl (l, refl) h j (lit≤ tt))
    (segment_by _ (136, lit< tt, (refl, refl, refl, refl), refl) refl refl (l, refl) h j (lit≤ tt))
by_kind w n c l h j kind.Stack = plain (λ a. FitsFrame (Segdef (with w n c kind.Stack a)))
    (segment_by _ (52, lit< tt, (refl, refl, refl, refl), refl) refl refl (l, refl) h j (lit≤ tt))
    (segment_by _ (84, lit< tt, (refl, refl, refl, refl), refl) refl refl (l, refl) h j (lit≤ tt))
    (segment_by _ (180, lit< tt, (refl, refl, refl, refl), refl) refl refl (l, refl) h j (lit≤ tt))
    (segment_by _ (116, lit< tt, (refl, refl, refl, refl), refl) refl refl (l, refl) h j (lit≤ tt))
    (segment_by _ (148, lit< tt, (refl, refl, refl, refl), refl) refl refl (l, refl) h j (lit≤ tt))
by_kind w n c l h j kind.Common = plain (λ a. FitsFrame (Segdef (with w n c kind.Common a)))
    (segment_by _ (56, lit< tt, (refl, refl, refl, refl), refl) refl refl (l, refl) h j (lit≤ tt))
    (segment_by _ (88, lit< tt, (refl, refl, refl, refl), refl) refl refl (l, refl) h j (lit≤ tt))
    (segment_by _ (184, lit< tt, (refl, refl, refl, refl), refl) refl refl (l, refl) h j (lit≤ tt))
    (segment_by _ (120, lit< tt, (refl, refl, refl, refl), refl) refl refl (l, refl) h j (lit≤ tt))
    (segment_by _ (152, lit< tt, (refl, refl, refl, refl), refl) refl refl (l, refl) h j (lit≤ tt))

pub segment_fits : (place : ℕ) (nulls : Bool) (p : Part) → place < 16383 → FitsFrame (segment_record place nulls p)
segment_fits place true p h =
    by_kind 16 (2 * place + 2) (2 * place + 3) (lit< tt) (omega (arith, h)) (omega (arith, h)) p.kind p.alignment
segment_fits place false p h =
    by_kind 0 (2 * place + 2) (2 * place + 3) (lit< tt) (omega (arith, h)) (omega (arith, h)) p.kind p.alignment

-- ---- LEDATA

null_bytes : IsBytes null_data
null_bytes = (lit< tt, (lit< tt, (lit< tt, (lit< tt, (lit< tt, (lit< tt, (lit< tt, (lit< tt, eight))))))))
  where
    eight : IsBytes (replicate 8 0)
    eight = (lit< tt, (lit< tt, (lit< tt, (lit< tt, (lit< tt, (lit< tt, (lit< tt, (lit< tt, tt))))))))

pub nulls_fit : (place : ℕ) → place < 16383 → FitsFrame (null_record place)
unfolding Body canonical
nulls_fit place h = record {
  body =
      joined (canon.index (place + 1)) (canon.word 0 ++ null_data) (index_text (place + 1) (omega (arith, h)))
      (joined (canon.word 0) null_data (lit< tt, refl) (null_bytes, refl));
  short = omega (arith, length-append (canon.index (place + 1)) (canon.word 0 ++ null_data), index_len (place + 1));
}

-- ---- GRPDEF and PUBDEF

flat_map_len : {A : Type 0} (f : A → List ℕ) (most : ℕ) (xs : List A) → AllByRecursion (λ x. length (f x) ≤ most) xs
    → length (flat_map f xs) ≤ length xs * most
flat_map_len f most [] h = omega arith
flat_map_len f most (x ∷ xs) h = omega (arith, length-append (f x) (flat_map f xs), flat_map_len f most xs h.1, h.0)

components_text : (ns : List ℕ) → AllByRecursion (λ n. n ≤ 16383) ns
    → AllByRecursion (λ n. ComponentText n (canon.component n)) ns
components_text [] h = tt
components_text (n ∷ ns) h =
    (joined (0xFF ∷ []) (canon.index n) (lit< tt, refl) (index_text n (omega (arith, h.0))), components_text ns h.1)

components_len : (ns : List ℕ) → AllByRecursion (λ n. length (canon.component n) ≤ 3) ns
components_len [] = tt
components_len (n ∷ ns) = (omega (arith, index_len n), components_len ns)

pub group_fits : (ns : List ℕ) → length ns ≤ 2 → AllByRecursion (λ n. n ≤ 16383) ns → FitsFrame (Grpdef 1 ns)
unfolding Body canonical
group_fits ns few small = record {
  body =
      joined (canon.index 1) (flat_map canon.component ns) (index_text 1 (lit≤ tt))
      (each_text ComponentText canon.component ns (components_text ns small));
  short =
      omega (
        arith,
        few,
        length-append (canon.index 1) (flat_map canon.component ns),
        index_len 1,
        flat_map_len canon.component 3 ns (components_len ns),
      );
}

publics_text : (ns : List (List ℕ)) → AllByRecursion IsName ns
    → AllByRecursion (λ p. PublicText p (canon.public p)) (map public_of ns)
publics_text [] h = tt
publics_text (n ∷ ns) h = (
  joined (canon.name n) (canon.word 0 ++ canon.index 0) (name_text n h.0)
      (joined (canon.word 0) (canon.index 0) (lit< tt, refl) (index_text 0 (lit≤ tt))),
  publics_text ns h.1,
)

publics_len : (ns : List (List ℕ)) → AllByRecursion IsName ns
    → AllByRecursion (λ p. length (canon.public p) ≤ 260) (map public_of ns)
publics_len [] h = tt
publics_len (n ∷ ns) h = (omega (arith, h.0.0, length-append n (canon.word 0 ++ canon.index 0)), publics_len ns h.1)

pub publics_fit : (segment : ℕ) (ns : List (List ℕ)) → 0 < segment → segment ≤ 32767 → length ns ≤ 2
    → AllByRecursion IsName ns → FitsFrame (Pubdef false (InSegment 1 segment) (map public_of ns))
unfolding Body canonical
publics_fit segment ns positive small few names =
    let base_text : BaseText (InSegment 1 segment) (canon.index 1 ++ canon.index segment) =
    joined (canon.index 1) (canon.index segment) (index_text 1 (lit≤ tt)) (positive, index_text segment small) in
    record {
      body =
          joined (canon.index 1 ++ canon.index segment) (flat_map canon.public (map public_of ns)) base_text
          (each_text PublicText canon.public (map public_of ns) (publics_text ns names));
      short = omega (
        arith,
        few,
        length-append (canon.index 1 ++ canon.index segment) (flat_map canon.public (map public_of ns)),
        length-append (canon.index 1) (canon.index segment),
        index_len 1,
        index_len segment,
        flat_map_len canon.public 260 (map public_of ns) (publics_len ns names),
        length-map ns public_of,
      );
    }

-- ---- the segments of the marks

pub few_marks : (a b : Option ℕ) → length (map segment_index (option_to_list a ++ option_to_list b)) ≤ 2
few_marks None None = lit≤ tt
few_marks None (Some k) = lit≤ tt
few_marks (Some j) None = lit≤ tt
few_marks (Some j) (Some k) = lit≤ tt

pub small_marks : (a b : Option ℕ) → IfSome a (λ k. k < 16383) → IfSome b (λ k. k < 16383)
    → AllByRecursion (λ n. n ≤ 16383) (map segment_index (option_to_list a ++ option_to_list b))
small_marks None None h l = tt
small_marks None (Some k) h l = (omega (arith, l), tt)
small_marks (Some j) None h l = (omega (arith, h), tt)
small_marks (Some j) (Some k) h l = (omega (arith, h), (omega (arith, l), tt))
