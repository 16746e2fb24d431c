-- A module with a further part of a group keeps its promises.
use Rattle.std.proofs.Common.{◌≡◌, ℕ, ◌+◌, ◌≤◌, Bool, true, false, not, List, [], ◌∷◌, ◌++◌, length, take}
use Rattle.std.proofs.Common.{Option, None, Some, refl, sym, subst, arith, length-append, cond}
use Rattle.std.specs.Prelude.{IfSome, All, ◌==◌, ◌&&◌}
use Rattle.std.specs.Option.{option_map}
use Rattle.std.proofs.lemmas.List.Elements.{All-from_recursion, All-push, All-weaker, All-map}
use Rattle.omf_record.specs.declared.externals.PublicBase.{PublicBase}
use Rattle.omf_record.specs.declared.externals.PublicBase.TheVariants as public_base
use Rattle.omf_record.specs.declared.fixups.FrameMethod.{FrameMethod}
use Rattle.omf_record.specs.declared.fixups.FrameMethod.TheVariants as by
use Rattle.omf_record.specs.declared.fixups.TargetMethod.{TargetMethod}
use Rattle.omf_record.specs.declared.fixups.TargetMethod.TheVariants as to
use Rattle.omf_module.specs.declared.ResolvedFixup.{ResolvedFixup}
use Rattle.omf_module.specs.declared.Start.{Start}
use Rattle.omf_module.specs.Faults.{is_absolute}
use Rattle.omf_module.specs.Module.{Segment, Group, ExternalSymbol, PublicSymbol, DataRecord, Module}
use Rattle.omf_module.specs.Grouped.{greatest_index, joining, members, is_member}
use Rattle.omf_module.specs.Grouped.{has_members_frame, frame_in, base_in, fixup_in, data_in, public_in, start_in}
use Rattle.omf_module.specs.Grouped.{with_part}
use Rattle.omf_module.specs.Sound.{IsShort, TargetMeans, FrameMeans, BaseMeans, IsMember, FixupFits, DataFits}
use Rattle.omf_module.specs.Sound.{GroupFits, PublicFits, StartFits, IsSound}
use Rattle.omf_module.proofs.Joining.{members_all, get_of_take}

either : {X : Type 0} (P : X → Type 0) (b : Bool) (x y : X) → P x → P y → P (cond b x y)
either P true x y p q = p
either P false x y p q = q

both : (a b : Bool) → (a && b) ≡ true → b ≡ true
both true b e = e
both false b e = cc

is_placed : (a : Bool) → not a ≡ true → a ≡ false
is_placed true e = cc
is_placed false e = refl

module _ (ss : List Segment) (gs : List Group) (g : Group) (es : List ExternalSymbol) where
  abbrev longer : List Group
  longer = gs ++ g ∷ []

  target_still : (t : TargetMethod) → TargetMeans ss gs es t → TargetMeans ss longer es t
  target_still (to.Segment i) h = h
  target_still (to.Group i) h = (h.0, omega (arith, h.1, length-append gs (g ∷ [])))
  target_still (to.External i) h = h

  frame_still : (f : FrameMethod) → FrameMeans ss gs es f → FrameMeans ss longer es f
  frame_still (by.By method) h = target_still method h
  frame_still by.Location h = tt
  frame_still by.Target h = tt

  last_means : FrameMeans ss longer es (by.By (to.Group (length gs + 1)))
  last_means = (omega arith, omega (arith, length-append gs (g ∷ [])))

  group_still : (x : Group) → GroupFits ss gs es x → GroupFits ss longer es x
  group_still x h = record { name = h.name; members = h.members }

  module _ (joined : List Bool) where
    frame_means : (here : ℕ) (t : TargetMethod) (f : FrameMethod) → FrameMeans ss gs es f
        → FrameMeans ss longer es (frame_in joined (length gs + 1) here t f)
    frame_means here t f h =
        either (FrameMeans ss longer es) (has_members_frame joined here t f)
        (by.By (to.Group (length gs + 1))) f last_means (frame_still f h)

    base_means : (b : PublicBase) → BaseMeans ss gs es b
        → BaseMeans ss longer es (base_in joined (length gs + 1) b)
    base_means (public_base.AtFrame own frame) h = (h.0, omega (arith, h.1, length-append gs (g ∷ [])))
    base_means (public_base.InSegment own i) h = (
      h.0,
      either (λ n. n ≤ length longer) ((own == 0) && is_member joined (to.Segment i)) (length gs + 1)
          own (omega (arith, length-append gs (g ∷ []))) (omega (arith, h.1, length-append gs (g ∷ []))),
    )

    public_fits : (p : PublicSymbol) → PublicFits ss gs es p
        → PublicFits ss longer es (public_in joined (length gs + 1) p)
    public_fits p h = record { name = h.name; base = base_means p.base h.base; offset = h.offset }

    fixup_fits : (d : DataRecord) (x : ResolvedFixup) → FixupFits ss gs es d x
        → FixupFits ss longer es (data_in joined (length gs + 1) d) (fixup_in joined (length gs + 1) d.segment x)
    fixup_fits d x h = record {
      frame = frame_means d.segment x.target x.frame h.frame;
      target = target_still x.target h.target;
      together = h.together;
      whole = h.whole;
      relative = h.relative;
    }

    data_fits : (d : DataRecord) → DataFits ss gs es d → DataFits ss longer es (data_in joined (length gs + 1) d)
    data_fits d h = record {
      segment = h.segment;
      is_part = h.is_part;
      inside = h.inside;
      copies = h.copies;
      fixups = All-map (FixupFits ss longer es (data_in joined (length gs + 1) d))
          (fixup_in joined (length gs + 1) d.segment) d.fixups
          (All-weaker (FixupFits ss gs es d)
          (λ x. FixupFits ss longer es (data_in joined (length gs + 1) d)
          (fixup_in joined (length gs + 1) d.segment x))
          (fixup_fits d) d.fixups h.fixups);
    }

    no_location : (b : Bool) (f : FrameMethod) → (f ≡ by.Location → ⊥)
        → cond b (by.By (to.Group (length gs + 1))) f ≡ by.Location → ⊥
    no_location true f h e = cc
    no_location false f h e = h e

    start_fits : (o : Option Start) → IfSome o (StartFits ss gs es)
        → IfSome (option_map (start_in joined (length gs + 1)) o) (StartFits ss longer es)
    start_fits None h = tt
    start_fits (Some s) h = record {
      frame = frame_means 0 s.target s.frame h.frame;
      target = target_still s.target h.target;
      no_location =
          no_location (has_members_frame joined 0 s.target s.frame) s.frame
          h.no_location;
    }

-- each that joins is a segment that is placed
all_members : (class : List ℕ) (ss : List Segment) (gs hs : List Group) (es : List ExternalSymbol)
    → All (IsMember ss hs es) (members (joining class ss gs))
all_members class ss gs hs es =
    All-from_recursion (IsMember ss hs es) _
    (members_all (IsMember ss hs es) class gs 0 (take greatest_index ss)
    (λ i s e c.
    let same : 0 + i ≡ i = omega arith in
    subst (IsMember ss hs es) (sym same)
    (s, (get_of_take greatest_index ss i s e, is_placed (is_absolute s.standing) (both _ _ c)))))

pub sound_with_part : (class name : List ℕ) (m : Module) → IsSound m → IsShort name
    → IsSound (with_part (joining class m.segments m.groups) (length m.groups + 1) name m)
sound_with_part class name m h short =
    let joined = joining class m.segments m.groups in
    let g : Group = record { name = name; members = members joined } in
    let still = group_still m.segments m.groups g m.externals in
    let fits = GroupFits m.segments (m.groups ++ g ∷ []) m.externals in
    record {
      segments = h.segments;
      groups = All-push fits m.groups g (All-weaker (GroupFits m.segments m.groups m.externals) fits still m.groups h.groups)
          (record { name = short; members = all_members class m.segments m.groups (m.groups ++ g ∷ []) m.externals });
      externals = h.externals;
      publics = All-map (PublicFits m.segments (m.groups ++ g ∷ []) m.externals) (public_in joined (length m.groups + 1))
          m.publics
          (All-weaker (PublicFits m.segments m.groups m.externals)
          (λ p. PublicFits m.segments (m.groups ++ g ∷ []) m.externals (public_in joined (length m.groups + 1) p))
          (public_fits m.segments m.groups g m.externals joined) m.publics h.publics);
      data_records = All-map (DataFits m.segments (m.groups ++ g ∷ []) m.externals)
          (data_in joined (length m.groups + 1)) m.data_records
          (All-weaker (DataFits m.segments m.groups m.externals)
          (λ d. DataFits m.segments (m.groups ++ g ∷ []) m.externals (data_in joined (length m.groups + 1) d))
          (data_fits m.segments m.groups g m.externals joined) m.data_records h.data_records);
      start = start_fits m.segments m.groups g m.externals joined m.start h.start;
    }
