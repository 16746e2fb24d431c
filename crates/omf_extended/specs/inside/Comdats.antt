-- What a COMDAT is made of before its data; and the bytes of LINSYM, BAKPAT and NBKPAT that stand for a flag and for a
-- location.
use Rattle.std.proofs.Common.{◌≡◌, ℕ, ◌+◌, ◌*◌, ◌/◌, ◌%◌, ◌<◌, Bool, cond, eqb, List, [], Option, Some, None}
use Rattle.std.proofs.Common.{refl, sym, subst, arith}
use Rattle.std.proofs.lemmas.Bool.{eqb-true, eqb-false}
use Rattle.omf_codec.specs.Language.{Byte, width_of}
use Rattle.omf_codec.specs.inside.Format.{Format, Lawful, Completes, IsMade, Splits, free}
use Rattle.omf_codec.specs.inside.FormatLaws.{both, both_lawful, both_blank, behind, behind_blank, when}
use Rattle.omf_codec.specs.inside.FormatLaws.{when_lawful, when_blank, WhenText, bits_at, map_same}
use Rattle.omf_codec.specs.inside.FormatLaws.{exact, exact_splits, made_blank}
use Rattle.omf_codec.specs.inside.Heads.{joined}
use Rattle.omf_codec.specs.inside.Numbers.{number, number_lawful, number_blank}
use Rattle.omf_codec.specs.inside.PrimitiveLaws.{index, index_lawful, index_blank, word, word_blank, fact_byte}
use Rattle.omf_codec.specs.inside.PrimitiveLaws.{fact_byte_lawful, fact_byte_blank}
use Rattle.omf_record.specs.Body.{BaseText}
use Rattle.omf_record.specs.Numbers.{bit}
use Rattle.omf_record.specs.declared.externals.PublicBase.{PublicBase}
use Rattle.omf_record.specs.inside.Shapes.{base, base_lawful, base_made, BaseParts}
use Rattle.omf_extended.specs.Body.{AllocationText, ComdatAt}
use Rattle.omf_extended.specs.Numbers.{flags_number, selection_number, allocation_number, comdat_alignment_number}
use Rattle.omf_extended.specs.Numbers.{patch_location_number}
use Rattle.omf_extended.specs.declared.comdats.Comdat.{Comdat}
use Rattle.omf_extended.specs.declared.comdats.ComdatAlignment.{ComdatAlignment}
use Rattle.omf_extended.specs.declared.comdats.ComdatAlignment.TheVariants as align
use Rattle.omf_extended.specs.declared.comdats.ComdatAllocation.{ComdatAllocation}
use Rattle.omf_extended.specs.declared.comdats.ComdatAllocation.TheVariants as alloc
use Rattle.omf_extended.specs.declared.comdats.ComdatSelection.{ComdatSelection}
use Rattle.omf_extended.specs.declared.comdats.ComdatSelection.TheVariants as select
use Rattle.omf_extended.specs.declared.patches.PatchLocation.{PatchLocation}
use Rattle.omf_extended.specs.declared.patches.PatchLocation.TheVariants as location

-- ---- flags

pub flag_to : (n : ℕ) → n < 2 → n ≡ bit (eqb n 1)
flag_to n lt = grind (arith, eqb-true, eqb-false)

pub flag_back : (flag : Bool) (n : ℕ) → n ≡ bit flag → eqb n 1 ≡ flag
flag_back flag n e = grind (arith, eqb-true, eqb-false, e)

pub flag_small : (flag : Bool) → bit flag < 2
flag_small flag = grind arith

-- ---- numbers

-- the selection of this number
abbrev pub selection_of : ℕ → ComdatSelection
selection_of n = cond (eqb n 0) select.NoMatch
    (cond (eqb n 1) select.PickAny (cond (eqb n 2) select.SameSize select.ExactMatch))

selection_to : (n : ℕ) → n < 4 → selection_number (selection_of n) ≡ n
selection_to n lt = grind (arith, eqb-true, eqb-false)

selection_back : (s : ComdatSelection) (n : ℕ) → n ≡ selection_number s → (selection_of n ≡ s)
    × (selection_number s < 4)
selection_back s n e = grind (arith, e)

-- the alignment of this number
abbrev pub comdat_alignment_of : ℕ → ComdatAlignment
comdat_alignment_of n = cond (eqb n 0) align.OfSegment
    (cond (eqb n 1) align.Byte
    (cond (eqb n 2) align.Word (cond (eqb n 3) align.Paragraph (cond (eqb n 4) align.Page align.DoubleWord))))

alignment_to : (n : ℕ) → n < 6 → comdat_alignment_number (comdat_alignment_of n) ≡ n
alignment_to n lt = grind (arith, eqb-true, eqb-false)

alignment_back : (a : ComdatAlignment) → (comdat_alignment_of (comdat_alignment_number a) ≡ a)
    × (comdat_alignment_number a < 6)
alignment_back a = grind arith

-- the allocation of this number, with the place of one that is put there
abbrev pub allocation_of : ℕ → Option PublicBase → ComdatAllocation
allocation_of n (Some base) = alloc.Explicit base
allocation_of n None = cond (eqb n 1) alloc.FarCode
    (cond (eqb n 2) alloc.FarData (cond (eqb n 3) alloc.Code32 alloc.Data32))

-- the place of one that is put there
abbrev pub base_in : ComdatAllocation → Option PublicBase
base_in (alloc.Explicit base) = Some base
base_in _ = None

allocation_to : (b : ℕ) (x : Option PublicBase) (text : List ℕ) → b % 16 < 5
    → WhenText (bits_at 1 16 b ≡ 0) BaseText x text
    → (allocation_number (allocation_of (b % 16) x) ≡ b % 16) × AllocationText (allocation_of (b % 16) x) text
allocation_to b (Some base) text lt l = (omega (arith, l.0), l.1)
allocation_to b None text lt l = grind (arith, eqb-true, eqb-false, l)

allocation_from : (a : ComdatAllocation) (b : ℕ) (text : List ℕ) → b % 16 ≡ allocation_number a → AllocationText a text
    → WhenText (bits_at 1 16 b ≡ 0) BaseText (base_in a) text
allocation_from (alloc.Explicit base) b text e l = (omega (arith, e), l)
allocation_from _ b text e l = ((λ k. omega (arith, k, e)), l)

allocation_back : (a : ComdatAllocation) (n : ℕ) → n ≡ allocation_number a → (allocation_of n (base_in a) ≡ a)
    × (allocation_number a < 5)
allocation_back a n e = grind (arith, e)

-- the location of this number
abbrev pub patch_location_of : ℕ → PatchLocation
patch_location_of n = cond (eqb n 0) location.Byte (cond (eqb n 1) location.Word location.DoubleWord)

pub location_to : (n : ℕ) → n < 3 → patch_location_number (patch_location_of n) ≡ n
location_to n lt = grind (arith, eqb-true, eqb-false)

pub location_small : (l : PatchLocation) → patch_location_number l < 3
location_small l = grind arith

-- ---- bytes

-- flags: bits 4 to 7 are 0
abbrev pub AreFlags : ℕ → Type 0
AreFlags b = b < 16

-- the selection, and the allocation
abbrev pub AreAttributes : ℕ → Type 0
AreAttributes b = (b / 16 < 4) × (b % 16 < 5)

-- the alignment
abbrev pub IsAlignment : ℕ → Type 0
IsAlignment b = b < 6

-- a flag alone, in bit 0
abbrev pub IsFlag : ℕ → Type 0
IsFlag b = b < 2

-- a location
abbrev pub IsLocation : ℕ → Type 0
IsLocation b = b < 3

pub flags_zero : AreFlags 0
flags_zero = omega arith

pub attributes_zero : AreAttributes 0
attributes_zero = (omega arith, omega arith)

pub alignment_zero : IsAlignment 0
alignment_zero = omega arith

pub flag_zero : IsFlag 0
flag_zero = omega arith

pub location_zero : IsLocation 0
location_zero = omega arith

-- ---- COMDAT

-- what stands behind the attributes: alignment, offset, type, place, name
abbrev pub Tail : Type 0
Tail = ℕ × (ℕ × (ℕ × (Option PublicBase × ℕ)))

abbrev pub Behind : Bool → ℕ → Format Tail Tail
Behind wide b =
    both (fact_byte IsAlignment)
    (both (number wide) (both index (both (when (bits_at 1 16 b ≡ 0) base) index)))

pub base_blank : Completes base []
base_blank = made_blank BaseParts base base_made
    (both_blank index (behind index (λ n. when (bits_at 1 65536 n ≡ 0) word) (λ rest. Unit {0})) index_blank
    (behind_blank index (λ n. when (bits_at 1 65536 n ≡ 0) word) (λ rest. Unit {0}) index_blank
    (λ n. when_blank (bits_at 1 65536 n) 0 word word_blank)))

pub behind_laws : (wide : Bool) (b : ℕ) → Lawful (Behind wide b)
behind_laws wide b =
    both_lawful (fact_byte IsAlignment) (fact_byte_lawful IsAlignment) (λ r. tt) _
    (both_lawful (number wide) (number_lawful wide) (λ r. tt) _
    (both_lawful index index_lawful (λ r. tt) _
    (both_lawful (when (bits_at 1 16 b ≡ 0) base) (when_lawful (bits_at 1 16 b ≡ 0) base base_lawful (λ r. tt))
    (λ r. tt) index index_lawful)))

pub behind_blanks : (wide : Bool) (b : ℕ) → Completes (Behind wide b) []
behind_blanks wide b =
    let placed = both (when (bits_at 1 16 b ≡ 0) base) index in
    both_blank (fact_byte IsAlignment) (both (number wide) (both index placed))
    (fact_byte_blank IsAlignment alignment_zero)
    (both_blank (number wide) (both index placed) (number_blank wide)
    (both_blank index placed index_blank
    (both_blank (when (bits_at 1 16 b ≡ 0) base) index (when_blank (bits_at 1 16 b) 0 base base_blank) index_blank)))

abbrev pub ComdatParts : Bool → Format (ℕ × (ℕ × Tail)) (ℕ × (ℕ × Tail))
ComdatParts wide =
    both (fact_byte AreFlags) (behind (fact_byte AreAttributes) (Behind wide) (λ rest. Unit {0}))

-- what these bytes and fields say
abbrev pub comdat_of : ℕ × (ℕ × Tail) → Comdat
comdat_of x = record {
  continuation = eqb (x.0 % 2) 1;
  iterated = eqb (x.0 / 2 % 2) 1;
  local = eqb (x.0 / 4 % 2) 1;
  in_code = eqb (x.0 / 8 % 2) 1;
  selection = selection_of (x.1.0 / 16);
  allocation = allocation_of (x.1.0 % 16) x.1.1.1.1.1.0;
  alignment = comdat_alignment_of x.1.1.0;
  offset = x.1.1.1.0;
  type_index = x.1.1.1.1.0;
  name = x.1.1.1.1.1.1;
}

-- the attributes
abbrev pub attributes : Comdat → ℕ
attributes c = 16 * selection_number c.selection + allocation_number c.allocation

abbrev pub comdat_parts : Comdat → ℕ × (ℕ × Tail)
comdat_parts c = (
  flags_number c,
  (
    attributes c,
    (comdat_alignment_number c.alignment, (c.offset, (c.type_index, (base_in c.allocation, c.name)))),
  ),
)

-- the shortest text
abbrev pub comdat_text : Bool → Comdat → List ℕ
comdat_text wide c = (ComdatParts wide).canonical (comdat_parts c)

module _ (wide : Bool) where
  abbrev pub comdat : Format Comdat Comdat
  comdat = free (λ x. x) (ComdatAt (width_of wide)) (comdat_text wide)

  comdat_to : (x : ℕ × (ℕ × Tail)) (text : List ℕ) → (ComdatParts wide).Text x text
      → ComdatAt (width_of wide) (comdat_of x) text
  comdat_to x text j =
      let f = x.0 in
      let b = x.1.0 in
      let k = j.second in
      let a = k.second in
      let o = a.second in
      let t = o.second in
      let p = t.second in
      let lt = j.first.0 in
      let at = k.first.0 in
      let r = allocation_to b x.1.1.1.1.1.0 p.front at.1 p.first in
      let s = selection_to (b / 16) at.0 in
      let m : f ≡ flags_number (comdat_of x) = flags lt in
      let n : b ≡ attributes (comdat_of x) = let e = r.0 in omega (arith, s, e) in
      let q : x.1.1.0 ≡ comdat_alignment_number (comdat_of x).alignment = sym (alignment_to x.1.1.0 a.first.0) in
      joined j (subst (λ z. Byte z j.front) m j.first.1)
      (joined k (subst (λ z. Byte z k.front) n k.first.1)
      (joined a (subst (λ z. Byte z a.front) q a.first.1)
      (joined o o.first (joined t t.first (joined p r.1 p.second)))))
    where
      flags : x.0 < 16 → x.0 ≡ flags_number (comdat_of x)
      flags lt =
          let a0 : x.0 % 2 < 2 = omega arith in
          let a1 : x.0 / 2 % 2 < 2 = omega arith in
          let a2 : x.0 / 4 % 2 < 2 = omega arith in
          let a3 : x.0 / 8 % 2 < 2 = omega arith in
          let e0 = flag_to (x.0 % 2) a0 in
          let e1 = flag_to (x.0 / 2 % 2) a1 in
          let e2 = flag_to (x.0 / 4 % 2) a2 in
          let e3 = flag_to (x.0 / 8 % 2) a3 in
          omega (arith, lt, e0, e1, e2, e3)

  comdat_from : (c : Comdat) (text : List ℕ) → ComdatAt (width_of wide) c text
      → (ComdatParts wide).Text (comdat_parts c) text
  comdat_from c text j =
      let k = j.second in
      let a = k.second in
      let o = a.second in
      let t = o.second in
      let p = t.second in
      let s = (selection_back c.selection (selection_number c.selection) refl).1 in
      let l = (allocation_back c.allocation (allocation_number c.allocation) refl).1 in
      let g = (alignment_back c.alignment).1 in
      let f0 = flag_small c.continuation in
      let f1 = flag_small c.iterated in
      let f2 = flag_small c.local in
      let f3 = flag_small c.in_code in
      joined j (omega (arith, f0, f1, f2, f3), j.first)
      (joined k ((omega (arith, s, l), omega (arith, s, l)), k.first)
      (joined a (g, a.first)
      (joined o o.first (joined t t.first
      (joined p (allocation_from c.allocation (attributes c) p.front (omega (arith, l)) p.first) p.second)))))

  comdat_back : (c : Comdat) → comdat_of (comdat_parts c) ≡ c
  comdat_back c =
      let f0 = flag_small c.continuation in
      let f1 = flag_small c.iterated in
      let f2 = flag_small c.local in
      let f3 = flag_small c.in_code in
      let s = (selection_back c.selection (selection_number c.selection) refl).1 in
      let l = (allocation_back c.allocation (allocation_number c.allocation) refl).1 in
      rw (
        flag_back c.continuation (flags_number c % 2) (omega (arith, f0, f1, f2, f3)),
        flag_back c.iterated (flags_number c / 2 % 2) (omega (arith, f0, f1, f2, f3)),
        flag_back c.local (flags_number c / 4 % 2) (omega (arith, f0, f1, f2, f3)),
        flag_back c.in_code (flags_number c / 8 % 2) (omega (arith, f0, f1, f2, f3)),
        (selection_back c.selection (attributes c / 16) (omega (arith, s, l))).0,
        (allocation_back c.allocation (attributes c % 16) (omega (arith, l))).0,
        (alignment_back c.alignment).0,
      ) refl

  pub comdat_made : IsMade (ComdatParts wide) comdat
  comdat_made = exact (ComdatParts wide) comdat comdat_of comdat_parts (λ c. refl) comdat_to comdat_from comdat_back
      (λ r. tt)

  comdat_splits : (c : Comdat) → Splits (ComdatParts wide) comdat (comdat_parts c) c
  comdat_splits = exact_splits (ComdatParts wide) comdat comdat_of comdat_parts (λ c. refl) comdat_to comdat_from
      comdat_back

  -- the view of the parts is they themselves
  view_same : (x : ℕ × (ℕ × Tail)) → (ComdatParts wide).view x ≡ x
  view_same x = rw (map_same (λ x. x) (λ x. refl) x.1.1.1.1.1.0) refl

  pub comdat_make : (x : ℕ × (ℕ × Tail)) (text : List ℕ) → (ComdatParts wide).Text ((ComdatParts wide).view x) text
      → ComdatAt (width_of wide) (comdat_of x) text
  comdat_make x text l = comdat_to x text (subst (λ y. (ComdatParts wide).Text y text) (view_same x) l)

  pub comdat_split : (c : Comdat)
      → Splits (ComdatParts wide) comdat ((ComdatParts wide).view (comdat_parts c)) c
  comdat_split c =
      subst (λ x. Splits (ComdatParts wide) comdat x c) (sym (view_same (comdat_parts c))) (comdat_splits c)
