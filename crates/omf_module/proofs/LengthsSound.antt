-- A module with other lengths of its segments keeps its promises, where its data lies in them.
use Rattle.std.proofs.Common.{◌≡◌, ℕ, zero, suc, ◌+◌, ◌≤◌, Bool, true, false, List, [], ◌∷◌, length, map, Option}
use Rattle.std.proofs.Common.{None, Some, Ok, Err, refl, sym, ap, subst, ◌∙◌, arith}
use Rattle.std.specs.Prelude.{IfSome}
use Rattle.std.specs.Bool.{then_some}
use Rattle.std.specs.Option.{option_map}
use Rattle.std.specs.List.{slice_get, enumerate_from, AllByRecursion}
use Rattle.std.proofs.lemmas.Bool.Decides.{nat_tests}
use Rattle.std.proofs.lemmas.List.Elements.{All-from_recursion, recursion_from_All, All-weaker}
use Rattle.omf_record.specs.declared.externals.PublicBase.{PublicBase}
use Rattle.omf_record.specs.declared.externals.PublicBase.TheVariants as public_base
use Rattle.omf_record.specs.declared.fixups.FrameMethod.{FrameMethod}
use Rattle.omf_record.specs.declared.fixups.FrameMethod.TheVariants as by
use Rattle.omf_record.specs.declared.fixups.TargetMethod.{TargetMethod}
use Rattle.omf_record.specs.declared.fixups.TargetMethod.TheVariants as to
use Rattle.omf_module.specs.declared.ResolvedFixup.{ResolvedFixup}
use Rattle.omf_module.specs.declared.Start.{Start}
use Rattle.omf_module.specs.Before.{first}
use Rattle.omf_module.specs.Faults.{is_absolute}
use Rattle.omf_module.specs.Module.{Segment, Group, ExternalSymbol, PublicSymbol, DataRecord, Module}
use Rattle.omf_module.specs.Lengths.{told_length, with_told, with_length, relengthened, passes_end, is_outside}
use Rattle.omf_module.specs.Lengths.{first_outside, unless_outside, with_lengths}
use Rattle.omf_module.specs.Sound.{SegmentFits, TargetMeans, FrameMeans, BaseMeans, IsMember, FixupFits, DataFits}
use Rattle.omf_module.specs.Sound.{GroupFits, PublicFits, StartFits, IsSound}

module _ {X Y : Type 0} (g : ℕ × X → Y) where
  get_with : (n : ℕ) (xs : List X) (i : ℕ) (x : X) → slice_get xs i ≡ Some x
      → slice_get (map g (enumerate_from n xs)) i ≡ Some (g (n + i, x))
  get_with n [] i x e = cc
  get_with n (y ∷ xs) zero x e =
      let here : n ≡ n + 0 = omega arith in
      ap (λ (o : Option X). option_map (λ z. g (n, z)) o) e ∙ ap (λ k. Some (g (k, x))) here
  get_with n (y ∷ xs) (suc i) x e =
      let on : n + 1 + i ≡ n + suc i = omega arith in
      get_with (n + 1) xs i x e ∙ ap (λ k. Some (g (k, x))) on

  length_with : (n : ℕ) (xs : List X) → length (map g (enumerate_from n xs)) ≡ length xs
  length_with n [] = refl
  length_with n (x ∷ xs) = ap suc (length_with (n + 1) xs)

standing_stays : (o : Option ℕ) (s : Segment) → (with_told o s).standing ≡ s.standing
standing_stays None s = refl
standing_stays (Some bytes) s = refl

module _ (ss : List Segment) (gs : List Group) (es : List ExternalSymbol) (lengths : List (Option ℕ)) where
  abbrev new : List Segment
  new = map (with_length lengths) (enumerate_from 0 ss)

  same_count : length new ≡ length ss
  same_count = length_with (with_length lengths) 0 ss

  found : (i : ℕ) (s : Segment) → slice_get ss i ≡ Some s
      → (t : Segment) × (slice_get new i ≡ Some t) × (t.standing ≡ s.standing)
  found i s e = (
    with_length lengths (0 + i, s),
    get_with (with_length lengths) 0 ss i s e,
    standing_stays (told_length lengths (0 + i)) s,
  )

  target_still : (t : TargetMethod) → TargetMeans ss gs es t → TargetMeans new gs es t
  target_still (to.Segment i) h = (h.0, omega (arith, h.1, same_count))
  target_still (to.Group i) h = h
  target_still (to.External i) h = h

  frame_still : (f : FrameMethod) → FrameMeans ss gs es f → FrameMeans new gs es f
  frame_still (by.By method) h = target_still method h
  frame_still by.Location h = tt
  frame_still by.Target h = tt

  base_still : (b : PublicBase) → BaseMeans ss gs es b → BaseMeans new gs es b
  base_still (public_base.AtFrame group frame) h = h
  base_still (public_base.InSegment group segment) h = ((h.0.0, omega (arith, h.0.1, same_count)), h.1)

  member_still : (i : ℕ) → IsMember ss gs es i → IsMember new gs es i
  member_still i (s, part) =
      let p = found i s part.0 in
      (p.0, (p.1, ap is_absolute p.2 ∙ part.1))

  group_still : (g : Group) → GroupFits ss gs es g → GroupFits new gs es g
  group_still g h = record {
    name = h.name;
    members = All-weaker (IsMember ss gs es) (IsMember new gs es) member_still g.members h.members;
  }

  public_still : (p : PublicSymbol) → PublicFits ss gs es p → PublicFits new gs es p
  public_still p h = record { name = h.name; base = base_still p.base h.base; offset = h.offset }

  fixup_still : (d : DataRecord) (x : ResolvedFixup) → FixupFits ss gs es d x → FixupFits new gs es d x
  fixup_still d x h = record {
    frame = frame_still x.frame h.frame;
    target = target_still x.target h.target;
    together = h.together;
    whole = h.whole;
    relative = h.relative;
  }

  not_outside : (o : Option Segment) (s : Segment) (d : DataRecord) → o ≡ Some s → passes_end o d ≡ false
      → d.offset + length d.pairs ≤ s.length
  not_outside None s d e f = cc
  not_outside (Some t) s d e f =
      let same : t ≡ s = cc in
      subst (λ (u : Segment). d.offset + length d.pairs ≤ u.length) same (grind (arith, nat_tests))

  data_still : (d : DataRecord) → (is_outside new d ≡ false) × DataFits ss gs es d → DataFits new gs es d
  data_still d (inside, h) =
      let p = found d.segment h.segment h.is_part.0 in
      record {
        segment = p.0;
        is_part = (p.1, ap is_absolute p.2 ∙ h.is_part.1);
        inside = not_outside (slice_get new d.segment) p.0 d p.1 inside;
        copies = h.copies;
        fixups = All-weaker (FixupFits ss gs es d) (FixupFits new gs es d) (fixup_still d) d.fixups h.fixups;
      }

  start_still : (o : Option Start) → IfSome o (StartFits ss gs es) → IfSome o (StartFits new gs es)
  start_still None h = tt
  start_still (Some s) h = record {
    frame = frame_still s.frame h.frame;
    target = target_still s.target h.target;
    no_location = h.no_location;
  }

  nothing_here : (b : Bool) (n : ℕ) (os : List (Option ℕ)) → first (then_some b n ∷ os) ≡ None
      → (b ≡ false) × (first os ≡ None)
  nothing_here true n os e = cc
  nothing_here false n os e = (refl, e)

  nothing_outside : (ds : List DataRecord)
      → first (map (λ (d : DataRecord). then_some (is_outside new d) d.place) ds) ≡ None
      → AllByRecursion (DataFits ss gs es) ds → AllByRecursion (DataFits new gs es) ds
  nothing_outside [] e h = tt
  nothing_outside (d ∷ ds) e h =
      let p =
      nothing_here (is_outside new d) d.place
      (map (λ (d : DataRecord). then_some (is_outside new d) d.place) ds) e in
      (data_still d (p.0, h.0), nothing_outside ds p.1 h.1)

pub sound_lengths : (lengths : List (Option ℕ)) (m : Module) → IsSound m
    → AllByRecursion SegmentFits (relengthened lengths m).segments → first_outside (relengthened lengths m) ≡ None
    → IsSound (relengthened lengths m)
sound_lengths lengths m h fits none =
    let ss = m.segments in
    let gs = m.groups in
    let es = m.externals in
    let ss' = (relengthened lengths m).segments in
    record {
      segments = All-from_recursion SegmentFits ss' fits;
      groups = All-weaker (GroupFits ss gs es) (GroupFits ss' gs es) (group_still ss gs es lengths) gs h.groups;
      externals = h.externals;
      publics = All-weaker (PublicFits ss gs es) (PublicFits ss' gs es) (public_still ss gs es lengths) m.publics
          h.publics;
      data_records = All-from_recursion (DataFits ss' gs es) m.data_records
          (nothing_outside ss gs es lengths m.data_records none
          (recursion_from_All (DataFits ss gs es) m.data_records h.data_records));
      start = start_still ss gs es lengths m.start h.start;
    }

module _ (lengths : List (Option ℕ)) (m : Module) where
  pub is_refused : (place : ℕ) → first_outside (relengthened lengths m) ≡ Some place
      → Err place ≡ with_lengths lengths m
  is_refused place e = sym (ap (λ o. unless_outside o (relengthened lengths m)) e)

  pub is_answered : first_outside (relengthened lengths m) ≡ None
      → Ok (relengthened lengths m) ≡ with_lengths lengths m
  is_answered e = sym (ap (λ o. unless_outside o (relengthened lengths m)) e)
