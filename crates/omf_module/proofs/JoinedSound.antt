-- A module with what another defines behind its own keeps its promises.
use Rattle.std.proofs.Common.{◌≡◌, ℕ, suc, ◌+◌, ◌≤◌, List, [], ◌∷◌, ◌++◌, length, map}
use Rattle.std.proofs.Common.{refl, sym, ap, subst, ◌∙◌, arith, length-append}
use Rattle.std.specs.Prelude.{All, ◌==◌, Bool, true, false, if◌then◌else◌}
use Rattle.std.specs.List.{slice_get, AllByRecursion}
use Rattle.std.proofs.lemmas.List.{length-map}
use Rattle.std.proofs.lemmas.List.Elements.{All-append, All-weaker, All-map, recursion_from_All}
use Rattle.std.proofs.lemmas.Option.{slice_get_within}
use Rattle.omf_record.specs.declared.externals.PublicBase.{PublicBase}
use Rattle.omf_record.specs.declared.externals.PublicBase.TheVariants as public_base
use Rattle.omf_module.specs.Module.{Segment, Group, ExternalSymbol, PublicSymbol, DataRecord, Module}
use Rattle.omf_module.specs.Joined.{group_behind, part_behind, base_behind, public_behind, joined}
use Rattle.omf_module.specs.Sound.{SegmentFits, BaseMeans, IsMember, FixupFits, DataFits, GroupFits, PublicFits, IsSound}
use Rattle.omf_module.specs.inside.Room.{HasRoom}
use Rattle.omf_module.proofs.Promises.{part_more, member_more, base_more, fixup_more, maybe_start_more}

-- behind a list, what an element of another is at
get_behind : {X : Type 0} (xs ys : List X) (i : ℕ) → slice_get (xs ++ ys) (length xs + i) ≡ slice_get ys i
get_behind [] ys i =
    let same : 0 + i ≡ i = omega arith in
    ap (slice_get ys) same
get_behind (x ∷ xs) ys i =
    let next : length (x ∷ xs) + i ≡ suc (length xs + i) = omega arith in
    ap (slice_get (x ∷ xs ++ ys)) next ∙ get_behind xs ys i

within_both : (b : Bool) (x y most : ℕ) → x ≤ most → y ≤ most → (if b then x else y) ≤ most
within_both true x y most p q = p
within_both false x y most p q = q

module _ (ss ss' : List Segment) (gs gs' : List Group) (es : List ExternalSymbol) where
  abbrev segments : List Segment
  segments = ss ++ ss'

  -- of any groups as many as those
  module _ (ks : List Group) (fs : List ExternalSymbol) where
    member_behind : (i : ℕ) → IsMember ss' gs' fs i → IsMember segments ks es (length ss + i)
    member_behind i (s, part) = (s, (get_behind ss ss' i ∙ part.0, part.1))

    part_fits : (g : Group) → GroupFits ss' gs' fs g → GroupFits segments ks es (part_behind (length ss) g)
    part_fits g h = record {
      name = h.name;
      members = All-map (IsMember segments ks es) (λ m. length ss + m) g.members
          (All-weaker (IsMember ss' gs' fs) (λ m. IsMember segments ks es (length ss + m)) member_behind g.members
          h.members);
    }

    group_within : (g : ℕ) → length ks ≡ length gs + length gs' → g ≤ length gs'
        → group_behind (length gs) g ≤ length ks
    group_within g e h =
        within_both (g == 0) 0 (length gs + g) (length ks) (omega arith) (omega (arith, e, h))

    base_fits : (b : PublicBase) → length ks ≡ length gs + length gs' → BaseMeans ss' gs' fs b
        → BaseMeans segments ks es (base_behind (length ss) (length gs) b)
    base_fits (public_base.AtFrame group frame) e h = (h.0, group_within group e h.1)
    base_fits (public_base.InSegment group segment) e h =
        ((omega (arith, h.0.0), omega (arith, h.0.1, length-append ss ss')), group_within group e h.1)

    public_fits : length ks ≡ length gs + length gs' → (p : PublicSymbol) → PublicFits ss' gs' fs p
        → PublicFits segments ks es (public_behind (length ss) (length gs) p)
    public_fits e p h = record { name = h.name; base = base_fits p.base e h.base; offset = h.offset }

  module _ (gs'' : List Group) where
    own_group : (g : Group) → GroupFits ss gs es g → GroupFits segments (gs ++ gs'') (es ++ []) g
    own_group g h = record {
      name = h.name;
      members = All-weaker (IsMember ss gs es) (IsMember segments (gs ++ gs'') (es ++ []))
          (member_more ss ss' gs gs'' es []) g.members h.members;
    }

    own_public : (p : PublicSymbol) → PublicFits ss gs es p → PublicFits segments (gs ++ gs'') (es ++ []) p
    own_public p h =
        record { name = h.name; base = base_more ss ss' gs gs'' es [] p.base h.base; offset = h.offset }

    own_data : (d : DataRecord) → DataFits ss gs es d → DataFits segments (gs ++ gs'') (es ++ []) d
    own_data d h = record {
      segment = h.segment;
      is_part = part_more ss ss' gs gs'' es [] d.segment h.segment h.is_part;
      inside = h.inside;
      copies = h.copies;
      fixups = All-weaker (FixupFits ss gs es d) (FixupFits segments (gs ++ gs'') (es ++ []) d)
          (fixup_more ss ss' gs gs'' es [] d) d.fixups h.fixups;
    }

no_more : {X : Type 0} (xs : List X) → xs ++ [] ≡ xs
no_more [] = refl
no_more (x ∷ xs) = ap (λ ys. x ∷ ys) (no_more xs)

pub sound_joined : (m more : Module) → IsSound m → IsSound more → IsSound (joined m more)
sound_joined m more h k =
    let ss = m.segments in
    let ss' = more.segments in
    let gs = m.groups in
    let gs'' = map (part_behind (length ss)) more.groups in
    let ks = gs ++ gs'' in
    let count : length ks ≡ length gs + length more.groups =
    omega (arith, length-append gs gs'', length-map more.groups (part_behind (length ss))) in
    let ps' = map (public_behind (length ss) (length gs)) more.publics in
    subst (λ (es : List ExternalSymbol). IsSound (record (joined m more) { externals = es })) (no_more m.externals)
    (record {
      segments = All-append SegmentFits ss ss' h.segments k.segments;
      groups = All-append (GroupFits (ss ++ ss') ks (m.externals ++ [])) gs gs''
          (All-weaker (GroupFits ss gs m.externals) (GroupFits (ss ++ ss') ks (m.externals ++ []))
          (own_group ss ss' gs more.groups m.externals gs'') gs h.groups)
          (All-map (GroupFits (ss ++ ss') ks (m.externals ++ [])) (part_behind (length ss)) more.groups
          (All-weaker (GroupFits ss' more.groups more.externals)
          (λ g. GroupFits (ss ++ ss') ks (m.externals ++ []) (part_behind (length ss) g))
          (part_fits ss ss' gs more.groups (m.externals ++ []) ks more.externals) more.groups k.groups));
      externals = subst (All (λ (e : ExternalSymbol). length e.name ≤ 255)) (sym (no_more m.externals)) h.externals;
      publics = All-append (PublicFits (ss ++ ss') ks (m.externals ++ [])) m.publics ps'
          (All-weaker (PublicFits ss gs m.externals) (PublicFits (ss ++ ss') ks (m.externals ++ []))
          (own_public ss ss' gs more.groups m.externals gs'') m.publics h.publics)
          (All-map (PublicFits (ss ++ ss') ks (m.externals ++ [])) (public_behind (length ss) (length gs)) more.publics
          (All-weaker (PublicFits ss' more.groups more.externals)
          (λ p. PublicFits (ss ++ ss') ks (m.externals ++ []) (public_behind (length ss) (length gs) p))
          (public_fits ss ss' gs more.groups (m.externals ++ []) ks more.externals count) more.publics k.publics));
      data_records = All-weaker (DataFits ss gs m.externals) (DataFits (ss ++ ss') ks (m.externals ++ []))
          (own_data ss ss' gs more.groups m.externals gs'') m.data_records h.data_records;
      start = maybe_start_more ss ss' gs gs'' m.externals [] m.start h.start;
    })

-- indexes that count on from those of a module fit their fields
module _ (segments groups : ℕ) (ss : List Segment) (gs : List Group) (es : List ExternalSymbol)
    (room : segments + length ss ≤ 65535) where
  member_room : (i : ℕ) → IsMember ss gs es i → segments + i ≤ 65535
  member_room i (s, part) = omega (arith, room, slice_get_within ss i s part.0)

  pub room_members : (members : List ℕ) → All (IsMember ss gs es) members
      → AllByRecursion (λ i. segments + i ≤ 65535) members
  room_members members h =
      recursion_from_All (λ i. segments + i ≤ 65535) members
      (All-weaker (IsMember ss gs es) (λ i. segments + i ≤ 65535) member_room members h)

  pub room_base : groups + length gs ≤ 65535 → (b : PublicBase) → BaseMeans ss gs es b → HasRoom segments groups b
  room_base more (public_base.AtFrame group frame) h = omega (arith, more, h.1)
  room_base more (public_base.InSegment group segment) h =
      (omega (arith, more, h.1), omega (arith, room, h.0.1))
