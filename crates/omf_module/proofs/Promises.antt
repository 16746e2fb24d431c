-- What is kept of sound records keeps the promises of a module, one record further.
use Rattle.std.proofs.Common.{◌≡◌, ℕ, zero, suc, ◌+◌, ◌-◌, ◌<◌, ◌≤◌, Bool, true, false, not, List, [], ◌∷◌, ◌++◌}
use Rattle.std.proofs.Common.{length, map, Option, None, Some, Result, Ok, Err, refl, ap, subst, ◌∙◌, arith}
use Rattle.std.proofs.Common.{length-append, slice_get, cond, nat_le, nat_lt}
use Rattle.std.specs.Prelude.{IfSome}
use Rattle.std.specs.List.{AllByRecursion}
use Rattle.std.specs.Option.{option_to_list}
use Rattle.std.proofs.lemmas.List.{append-nil}
use Rattle.std.proofs.lemmas.Bool.Decides.{nat_tests}
use Rattle.std.specs.Option.{option_or}
use Rattle.omf_record.specs.Record.{Record, Public, External as ExternalName, Theadr, Coment, Modend, Extdef, Pubdef}
use Rattle.omf_record.specs.Record.{Linnum, Lnames, Segdef, Grpdef, Fixupp, Ledata, Lidata}
use Rattle.omf_record.specs.Numbers.{location_width}
use Rattle.omf_record.specs.Expansion.{expansion, contents, AreCopies}
use Rattle.omf_record.specs.inside.Fields.{stored_from}
use Rattle.omf_record.specs.declared.segments.SegmentDefinition.{SegmentDefinition}
use Rattle.omf_record.specs.declared.segments.Alignment.{Alignment}
use Rattle.omf_record.specs.declared.segments.Alignment.TheVariants as align
use Rattle.omf_record.specs.declared.segments.Combination.{Combination}
use Rattle.omf_record.specs.declared.externals.PublicBase.{PublicBase}
use Rattle.omf_record.specs.declared.externals.PublicBase.TheVariants as public_base
use Rattle.omf_record.specs.declared.fixups.FrameMethod.{FrameMethod}
use Rattle.omf_record.specs.declared.fixups.FrameMethod.TheVariants as by
use Rattle.omf_record.specs.declared.fixups.TargetMethod.{TargetMethod}
use Rattle.omf_record.specs.declared.fixups.TargetMethod.TheVariants as to
use Rattle.omf_record.specs.declared.fixups.Fixup.{Fixup}
use Rattle.omf_record.specs.declared.fixups.Subrecord.{Subrecord}
use Rattle.omf_record.specs.declared.fixups.Subrecord.TheVariants as sub
use Rattle.omf_record.specs.declared.fixups.Reference.{Reference}
use Rattle.omf_module.specs.declared.fault.CheckFault.{CheckFault}
use Rattle.omf_module.specs.declared.fault.CheckFault.TheVariants.{NameIndex, SegmentIndex, GroupIndex, ExternalIndex}
use Rattle.omf_module.specs.declared.fault.CheckFault.TheVariants.{FixupPlace, DataOutside, DataInAbsolute}
use Rattle.omf_module.specs.declared.fault.CheckFault.TheVariants.{SelfRelativeBase, GroupOfAbsolute}
use Rattle.omf_module.specs.declared.ResolvedFixup.{ResolvedFixup}
use Rattle.omf_module.specs.declared.Start.{Start}
use Rattle.omf_module.specs.Building.{HasShortNames, FitsFields, HasWordFrame, HasWordAndByte}
use Rattle.omf_module.specs.Module.{Segment, Group, ExternalSymbol, PublicSymbol, DataRecord, Module}
use Rattle.omf_module.specs.Before.{first, entry}
use Rattle.omf_module.specs.Tables.{used, name_at, standing_of}
use Rattle.omf_module.specs.inside.Checking.{fixup_of, start_of}
use Rattle.omf_module.specs.inside.Entries.{segment_of, group_of, public_of, external_of}
use Rattle.omf_module.specs.Faults.{is_beyond, misses}
use Rattle.omf_module.specs.Labels.{check_label}
use Rattle.omf_module.specs.inside.Checking.{◌⊓◌}
use Rattle.omf_module.specs.inside.Checking.{segment_fault}
use Rattle.omf_module.specs.inside.Checking.{when}
use Rattle.omf_module.specs.inside.Checking.{opening_fault}
use Rattle.omf_module.specs.Faults.{is_absolute, component_fault, data_fault, public_fault}
use Rattle.omf_module.specs.inside.Checking.{frame_fault, target_fault}
use Rattle.omf_module.specs.Faults.{holds_base, place_fault}
use Rattle.omf_module.specs.inside.Checking.{relative_fault, location_fault}
use Rattle.omf_module.specs.inside.Checking.{fixup_fault, start_fault}
use Rattle.omf_module.specs.inside.Contents.{lies_in}
use Rattle.omf_module.specs.inside.Running.{State, state_of, checked, slot, group_fault, add_to_last, add_data}
use Rattle.omf_module.specs.inside.Running.{module_in, later, step, step_record, step_subrecord, step_subrecords, ◌>>=◌}
use Rattle.omf_module.specs.Sound.{IsShort, IsIndexOf, FrameMeans, TargetMeans, BaseMeans, IsPart, IsMember, FixupFits}
use Rattle.omf_module.specs.Sound.{StartFits}
use Rattle.omf_module.specs.Sound.{SegmentFits, IsStanding}
use Rattle.omf_record.proofs.Expanded.{length-stored}
use Rattle.omf_record.proofs.Places.{all-append}
use Rattle.omf_record.proofs.Copies.{are_copies, are_copies-stored}
use Rattle.omf_module.proofs.Fitting.{DataFitting, Fitting}
use Rattle.omf_module.proofs.Whole.{by_fault}
use Rattle.omf_module.proofs.Together.{Stand, AllStand, stored_stand, repeated_stand}

all_weaker : {X : Type 0} (P Q : X → Type 0) (xs : List X) → ((x : X) → P x → Q x) → AllByRecursion P xs
    → AllByRecursion Q xs
all_weaker P Q [] f h = tt
all_weaker P Q (x ∷ xs) f h = (f x h.0, all_weaker P Q xs f h.1)

-- ---- longer lists

index_more : {X : Type 0} (xs ys : List X) (i : ℕ) → IsIndexOf xs i → IsIndexOf (xs ++ ys) i
index_more xs ys i h = (h.0, omega (arith, h.1, length-append xs ys))

pub get_more : {X : Type 0} (xs ys : List X) (i : ℕ) (x : X) → slice_get xs i ≡ Some x → slice_get (xs ++ ys) i ≡ Some x
get_more [] ys i x e = cc
get_more (z ∷ xs) ys zero x e = e
get_more (z ∷ xs) ys (suc i) x e = get_more xs ys i x e

module _ (ss ss' : List Segment) (gs gs' : List Group) (es es' : List ExternalSymbol) where
  pub target_more : (f : TargetMethod) → TargetMeans ss gs es f → TargetMeans (ss ++ ss') (gs ++ gs') (es ++ es') f
  target_more (to.Segment i) h = index_more ss ss' i h
  target_more (to.Group i) h = index_more gs gs' i h
  target_more (to.External i) h = index_more es es' i h

  pub frame_more : (f : FrameMethod) → FrameMeans ss gs es f → FrameMeans (ss ++ ss') (gs ++ gs') (es ++ es') f
  frame_more (by.By method) h = target_more method h
  frame_more by.Location h = tt
  frame_more by.Target h = tt

  pub base_more : (b : PublicBase) → BaseMeans ss gs es b → BaseMeans (ss ++ ss') (gs ++ gs') (es ++ es') b
  base_more (public_base.AtFrame g f) h = (h.0, omega (arith, h.1, length-append gs gs'))
  base_more (public_base.InSegment g i) h = (index_more ss ss' i h.0, omega (arith, h.1, length-append gs gs'))

  pub part_more : (i : ℕ) (s : Segment) → IsPart ss gs es i s → IsPart (ss ++ ss') (gs ++ gs') (es ++ es') i s
  part_more i s h = (get_more ss ss' i s h.0, h.1)

  pub member_more : (i : ℕ) → IsMember ss gs es i → IsMember (ss ++ ss') (gs ++ gs') (es ++ es') i
  member_more i h = (h.0, part_more i h.0 h.1)

  pub fixup_more : (d : DataRecord) (x : ResolvedFixup) → FixupFits ss gs es d x
      → FixupFits (ss ++ ss') (gs ++ gs') (es ++ es') d x
  fixup_more d x h = record {
    frame = frame_more x.frame h.frame;
    target = target_more x.target h.target;
    together = h.together;
    whole = h.whole;
    relative = h.relative;
  }

  data_more : (d : DataRecord) → DataFitting ss gs es d → DataFitting (ss ++ ss') (gs ++ gs') (es ++ es') d
  data_more d h = record {
    segment = h.segment;
    is_part = part_more d.segment h.segment h.is_part;
    inside = h.inside;
    copies = h.copies;
    fixups = all_weaker _ _ d.fixups (fixup_more d) h.fixups;
  }

  pub start_more : (s : Start) → StartFits ss gs es s → StartFits (ss ++ ss') (gs ++ gs') (es ++ es') s
  start_more s h =
      record { frame = frame_more s.frame h.frame; target = target_more s.target h.target; no_location = h.no_location }

  pub maybe_start_more : (o : Option Start) → IfSome o (StartFits ss gs es)
      → IfSome o (StartFits (ss ++ ss') (gs ++ gs') (es ++ es'))
  maybe_start_more None h = tt
  maybe_start_more (Some s) h = start_more s h

abbrev grown : Module → List Segment → List Group → List ExternalSymbol → Module
grown m ss gs es = record {
  segments = m.segments ++ ss;
  groups = m.groups ++ gs;
  externals = m.externals ++ es;
  publics = m.publics;
  data_records = m.data_records;
  start = m.start;
}

-- more segments, groups and externals
more : (m : Module) (ss : List Segment) (gs : List Group) (es : List ExternalSymbol) → Fitting m
    → AllByRecursion SegmentFits ss → AllByRecursion (λ (g : Group). IsShort g.name) gs
    → AllByRecursion (λ (e : ExternalSymbol). IsShort e.name) es
    → AllByRecursion
    (λ (g : Group). AllByRecursion (IsMember (m.segments ++ ss) (m.groups ++ gs) (m.externals ++ es)) g.members) gs
    → Fitting (grown m ss gs es)
more m ss gs es h a b c d = record {
  segments = all-append _ m.segments ss h.segments a;
  group_names = all-append _ m.groups gs h.group_names b;
  externals = all-append _ m.externals es h.externals c;
  public_names = h.public_names;
  groups =
      all-append _ m.groups gs
      (all_weaker _ _ m.groups
      (λ g k. all_weaker _ _ g.members (member_more m.segments ss m.groups gs m.externals es) k) h.groups) d;
  publics = all_weaker _ _ m.publics (λ p k. base_more m.segments ss m.groups gs m.externals es p.base k) h.publics;
  data_records = all_weaker _ _ m.data_records (data_more m.segments ss m.groups gs m.externals es) h.data_records;
  start = maybe_start_more m.segments ss m.groups gs m.externals es m.start h.start;
}

-- ---- faults that don't stand

when_none : (b : Bool) (f : CheckFault) → when b f ≡ None → b ≡ false
when_none true f e = cc
when_none false f e = refl

one_of_two : (f g : CheckFault) (t : Bool) → cond t (Some f) (Some g) ≡ None → ⊥
one_of_two f g true e = cc
one_of_two f g false e = cc

none_or : (a b : Option CheckFault) → option_or a b ≡ None → (a ≡ None) × (b ≡ None)
none_or None b e = (refl, e)
none_or (Some f) b e = cc

none_both : (a b : Option CheckFault) → a ⊓ b ≡ None → (a ≡ None) × (b ≡ None)
none_both None b e = (refl, e)
none_both (Some f) None e = cc
none_both (Some f) (Some g) e = absurd (one_of_two f g (nat_le (check_label f).0 (check_label g).0) e)

-- an index that means something
is_index : {X : Type 0} (xs : List X) (i : ℕ) → misses xs i ≡ false → IsIndexOf xs i
is_index xs zero e = cc
is_index xs (suc i) e = grind (arith, nat_tests)

not_less : (a b : ℕ) → nat_lt a b ≡ false → b ≤ a
not_less a b e = grind (arith, nat_tests)

not_past : {X : Type 0} (xs : List X) (i : ℕ) → is_beyond xs i ≡ false → i ≤ length xs
not_past xs i e = grind (arith, nat_tests)

-- ---- names

short_name : (ns : List (List ℕ)) (i : ℕ) → AllByRecursion IsShort ns → IsShort (name_at ns i)
short_name ns zero h = omega arith
short_name [] (suc n) h = omega arith
short_name (x ∷ ns) (suc zero) h = h.0
short_name (x ∷ ns) (suc (suc n)) h = short_name ns (suc n) h.1

externals_short : (local : Bool) (listed : List ExternalName)
    → AllByRecursion (λ (e : ExternalName). IsShort e.name) listed
    → AllByRecursion (λ (e : ExternalSymbol). IsShort e.name) (map (external_of local) listed)
externals_short local [] h = tt
externals_short local (n ∷ listed) h = (h.0, externals_short local listed h.1)

publics_named : (local : Bool) (base : PublicBase) (listed : List Public)
    → AllByRecursion (λ (p : Public). IsShort p.name) listed
    → AllByRecursion (λ (p : Public). p.offset < 65536) listed
    → AllByRecursion (λ (p : PublicSymbol). IsShort p.name × (p.offset < 65536)) (map (public_of local base) listed)
publics_named local base [] h k = tt
publics_named local base (n ∷ listed) h k = ((h.0, k.0), publics_named local base listed h.1 k.1)

-- ---- what each kind of record adds

-- the contents of the last data record against its data
abbrev pub LastFits : Option (List (ℕ × ℕ)) → List DataRecord → Type 0
LastFits None ds = Unit {0}
LastFits (Some cs) [] = Unit {0}
LastFits (Some cs) (d ∷ []) = AllStand cs d.pairs
LastFits (Some cs) (d ∷ e ∷ ds) = LastFits (Some cs) (e ∷ ds)

pub record Promises (s : State) : Type 0 where
  pub names : AllByRecursion IsShort s.tables.names
  pub sound : Fitting (module_in s)
  pub last : LastFits s.contents s.data_records

abbrev ok : State → Result State CheckFault
ok s = Ok s

ok_is : (s t : State) → ok s ≡ Ok t → s ≡ t
ok_is s t e = cc

abbrev Keeping : State → State → Type 0
Keeping s t = Promises s → Promises t

all_map : {X Y : Type 0} (Q : Y → Type 0) (f : X → Y) (xs : List X) → ((x : X) → Q (f x)) → AllByRecursion Q (map f xs)
all_map Q f [] h = tt
all_map Q f (x ∷ xs) h = (h x, all_map Q f xs h)

-- ---- LNAMES, SEGDEF, EXTDEF

abbrev with_names : State → List (List ℕ) → State
with_names s listed = record s { tables = record s.tables { names = s.tables.names ++ listed } }

names_keep : (s : State) (listed : List (List ℕ)) → AllByRecursion IsShort listed → Promises s
    → Promises (with_names s listed)
names_keep s listed b h = record {
  names = all-append _ s.tables.names listed h.names b;
  sound = h.sound;
  last = h.last;
}

abbrev with_segment : State → Segment → State
with_segment s x = record s { tables = record s.tables { segments = s.tables.segments ++ x ∷ [] } }

standing_fits : (a : Alignment) (c : Combination) → HasWordAndByte a → IsStanding (standing_of a c)
standing_fits (align.Absolute frame offset) c h = h
standing_fits align.Byte c h = (omega arith, omega arith)
standing_fits align.Word c h = (omega arith, omega arith)
standing_fits align.Paragraph c h = (omega arith, omega arith)
standing_fits align.Page c h = (omega arith, omega arith)
standing_fits align.DoubleWord c h = (omega arith, omega arith)

segment_fits : (ns : List (List ℕ)) (d : SegmentDefinition) → FitsFields (Segdef d) → AllByRecursion IsShort ns
    → SegmentFits (segment_of ns d)
segment_fits ns d b h = record {
  name = short_name ns d.name h;
  class = short_name ns d.class h;
  length = b.1;
  standing = standing_fits d.alignment d.combination b.0;
}

segment_keeps : (s : State) (d : SegmentDefinition) → FitsFields (Segdef d) → Promises s
    → Promises (with_segment s (segment_of s.tables.names d))
segment_keeps s d b h =
    let x = segment_of s.tables.names d in
    let all = more (module_in s) (x ∷ []) [] [] h.sound (segment_fits s.tables.names d b h.names, tt) tt tt tt in
    record { names = h.names; sound = simp append-nil at all; last = h.last }

abbrev with_externals : State → List ExternalSymbol → State
with_externals s es = record s { tables = record s.tables { externals = s.tables.externals ++ es } }

externals_keep : (s : State) (es : List ExternalSymbol) → AllByRecursion (λ (e : ExternalSymbol). IsShort e.name) es
    → Promises s → Promises (with_externals s es)
externals_keep s es e h =
    let all = more (module_in s) [] [] es h.sound tt tt e tt in
    record { names = h.names; sound = simp append-nil at all; last = h.last }

-- ---- GRPDEF

first_both : (o : Option CheckFault) (os : List (Option CheckFault)) → first (o ∷ os) ≡ None
    → (o ≡ None) × (first os ≡ None)
first_both None os e = (refl, e)
first_both (Some f) os e = cc

member_fits : (ss : List Segment) (gs : List Group) (es : List ExternalSymbol) (i : ℕ)
    → component_fault (entry ss i) ≡ None → IsMember ss gs es (i - 1)
member_fits ss gs es zero e = cc
member_fits ss gs es (suc n) e = go (slice_get ss n) refl e
  where
    go : (o : Option Segment) → slice_get ss n ≡ o → component_fault o ≡ None → IsMember ss gs es (suc n - 1)
    go None k f = cc
    go (Some s) k f =
        let here : suc n - 1 ≡ n = omega arith in
        (s, (ap (slice_get ss) here ∙ k, when_none (is_absolute s.standing) GroupOfAbsolute f))

members_fit : (ss : List Segment) (gs : List Group) (es : List ExternalSymbol) (is : List ℕ)
    → first (map (λ i. component_fault (entry ss i)) is) ≡ None
    → AllByRecursion (IsMember ss gs es) (map (λ i. i - 1) is)
members_fit ss gs es [] e = tt
members_fit ss gs es (i ∷ is) e =
    let p = first_both (component_fault (entry ss i)) (map (λ i. component_fault (entry ss i)) is) e in
    (member_fits ss gs es i p.0, members_fit ss gs es is p.1)

abbrev with_group : State → Group → State
with_group s x = record s { tables = record s.tables { groups = s.tables.groups ++ x ∷ [] } }

group_keeps : (s : State) (name : ℕ) (is : List ℕ)
    → first (map (λ i. component_fault (entry s.tables.segments i)) is) ≡ None → Promises s
    → Promises (with_group s (group_of s.tables.names name is))
group_keeps s name is e h =
    let g = group_of s.tables.names name is in
    let ms = members_fit s.tables.segments s.tables.groups s.tables.externals is e in
    let ms' =
    all_weaker _ _ g.members (member_more s.tables.segments [] s.tables.groups (g ∷ []) s.tables.externals []) ms in
    let all = more (module_in s) [] (g ∷ []) [] h.sound tt (short_name s.tables.names name h.names, tt) tt (ms', tt) in
    record { names = h.names; sound = simp append-nil at all; last = h.last }

-- ---- PUBDEF

base_fits : (t : Module) (b : PublicBase) → HasWordFrame b → public_fault t b ≡ None
    → BaseMeans t.segments t.groups t.externals b
base_fits t (public_base.AtFrame group frame) b e =
    (b, not_past t.groups group (when_none (is_beyond t.groups group) GroupIndex e))
base_fits t (public_base.InSegment group segment) b e =
    let missing = when (misses t.segments segment) SegmentIndex in
    let p = none_or missing (when (is_beyond t.groups group) GroupIndex) e in (
      is_index t.segments segment (when_none (misses t.segments segment) SegmentIndex p.0),
      not_past t.groups group (when_none (is_beyond t.groups group) GroupIndex p.1),
    )

abbrev with_publics : State → List PublicSymbol → State
with_publics s ps = record s { publics = s.publics ++ ps }

publics_keep : (s : State) (local : Bool) (base : PublicBase) (listed : List Public) → HasWordFrame base
    → AllByRecursion (λ (p : PublicSymbol). IsShort p.name × (p.offset < 65536)) (map (public_of local base) listed)
    → public_fault (module_in s) base ≡ None → Promises s
    → Promises (with_publics s (map (public_of local base) listed))
publics_keep s local base listed b n e h =
    let m = h.sound in
    let bases =
    all_map (λ (p : PublicSymbol). BaseMeans s.tables.segments s.tables.groups s.tables.externals p.base)
    (public_of local base) listed (λ p. base_fits (module_in s) base b e) in
    record {
      names = h.names;
      sound = record {
        segments = m.segments;
        group_names = m.group_names;
        externals = m.externals;
        public_names = all-append _ s.publics (map (public_of local base) listed) m.public_names n;
        groups = m.groups;
        publics = all-append _ s.publics (map (public_of local base) listed) m.publics bases;
        data_records = m.data_records;
        start = m.start;
      };
      last = h.last;
    }

-- ---- LEDATA, LIDATA

last_push : (cs : List (ℕ × ℕ)) (ds : List DataRecord) (d : DataRecord) → LastFits (Some cs) (d ∷ [])
    → LastFits (Some cs) (ds ++ d ∷ [])
last_push cs [] d h = h
last_push cs (c ∷ []) d h = h
last_push cs (c ∷ e ∷ ds) d h = last_push cs (e ∷ ds) d h

abbrev plain : (place segment offset : ℕ) (pairs : List (ℕ × ℕ)) → DataRecord
plain place segment offset pairs =
    record { place = place; segment = segment; offset = offset; pairs = pairs; fixups = [] }

data_fits : (ss : List Segment) (gs : List Group) (es : List ExternalSymbol) (place i offset n : ℕ)
    (pairs : List (ℕ × ℕ)) → length pairs ≡ n → AreCopies pairs → data_fault (entry ss i) offset n ≡ None
    → DataFitting ss gs es (plain place (i - 1) offset pairs)
data_fits ss gs es place zero offset n pairs len copies e = cc
data_fits ss gs es place (suc i) offset n pairs len copies e = go (slice_get ss i) refl e
  where
    go : (o : Option Segment) → slice_get ss i ≡ o → data_fault o offset n ≡ None
        → DataFitting ss gs es (plain place (suc i - 1) offset pairs)
    go None k f = cc
    go (Some s) k f =
        let p =
        none_or (when (nat_lt s.length (offset + n)) DataOutside) (when (is_absolute s.standing) DataInAbsolute) f in
        let here : suc i - 1 ≡ i = omega arith in
        let within = not_less s.length (offset + n) (when_none (nat_lt s.length (offset + n)) DataOutside p.0) in
        record {
          segment = s;
          is_part = (ap (slice_get ss) here ∙ k, when_none (is_absolute s.standing) DataInAbsolute p.1);
          inside = omega (arith, within, len);
          copies = copies;
          fixups = tt;
        }

data_keeps : (s : State) (place i offset n : ℕ) (pairs cs : List (ℕ × ℕ)) → length pairs ≡ n → AreCopies pairs
    → data_fault (entry s.tables.segments i) offset n ≡ None → AllStand cs pairs → Promises s
    → Promises (add_data s place (i - 1) offset pairs cs)
data_keeps s place i offset n pairs cs len copies e stand h =
    let m = h.sound in
    let d = plain place (i - 1) offset pairs in
    record {
      names = h.names;
      sound = record {
        segments = m.segments;
        group_names = m.group_names;
        externals = m.externals;
        public_names = m.public_names;
        groups = m.groups;
        publics = m.publics;
        data_records =
            all-append _ s.data_records (d ∷ []) m.data_records
            (data_fits s.tables.segments s.tables.groups s.tables.externals place i offset n pairs len copies e, tt);
        start = m.start;
      };
      last = last_push cs s.data_records d stand;
    }

-- ---- FIXUPP

target_means : (t : Module) (m : TargetMethod) → target_fault t (Some m) ≡ None
    → TargetMeans t.segments t.groups t.externals m
target_means t (to.Segment i) e = is_index t.segments i (when_none (misses t.segments i) SegmentIndex e)
target_means t (to.Group i) e = is_index t.groups i (when_none (misses t.groups i) GroupIndex e)
target_means t (to.External i) e = is_index t.externals i (when_none (misses t.externals i) ExternalIndex e)

frame_means : (t : Module) (m : FrameMethod) → frame_fault t (Some m) ≡ None
    → FrameMeans t.segments t.groups t.externals m
frame_means t (by.By method) e = target_means t method e
frame_means t by.Location e = tt
frame_means t by.Target e = tt

not_false : (b : Bool) → not b ≡ false → b ≡ true
not_false true e = refl
not_false false e = cc

place_fits : (o : Option (List (ℕ × ℕ))) (x : Fixup) (d : DataRecord) → place_fault o x ≡ None → LastFits o (d ∷ [])
    → Stand x.offset (location_width x.location) d.pairs
place_fits None x d e h = cc
place_fits (Some cs) x d e h =
    h x.offset (location_width x.location)
    (not_false (lies_in cs x.offset (location_width x.location))
    (when_none (not (lies_in cs x.offset (location_width x.location))) FixupPlace e))

relative_fits : (self : Bool) (b : Bool) → cond self (when b SelfRelativeBase) None ≡ None → self ≡ true → b ≡ false
relative_fits true b e k = when_none b SelfRelativeBase e
relative_fits false b e k = cc

-- the fix-ups are on this data
abbrev OnData : State → DataRecord → List ResolvedFixup → Type 0
OnData s d fs = AllByRecursion (FixupFits s.tables.segments s.tables.groups s.tables.externals d) fs

fixup_fits : (s : State) (place : ℕ) (x : Fixup) (f : Option FrameMethod) (t : Option TargetMethod) (d : DataRecord)
    → fixup_fault (module_in s) f t s.contents x ≡ None → LastFits s.contents (d ∷ [])
    → OnData s d (option_to_list (fixup_of place x f t))
fixup_fits s place x None t d e h = cc_list e
  where
    cc_list : fixup_fault (module_in s) None t s.contents x ≡ None
        → OnData s d (option_to_list (fixup_of place x None t))
    cc_list e = tt
fixup_fits s place x (Some f) None d e h = tt
fixup_fits s place x (Some f) (Some t) d e h =
    let a =
    none_both (frame_fault (module_in s) (Some f))
    (target_fault (module_in s) (Some t) ⊓ place_fault s.contents x ⊓ relative_fault x) e in
    let b = none_both (target_fault (module_in s) (Some t)) (place_fault s.contents x ⊓ relative_fault x) a.1 in
    let c = none_both (place_fault s.contents x) (relative_fault x) b.1 in
    let stand = place_fits s.contents x d c.0 h in (
      record {
        frame = frame_means (module_in s) f a.0;
        target = target_means (module_in s) t b.0;
        together = stand.together;
        whole = stand.whole;
        relative = relative_fits x.self_relative (holds_base x.location) c.1;
      },
      tt,
    )

refit : (ss : List Segment) (gs : List Group) (es : List ExternalSymbol) (d : DataRecord) (fs : List ResolvedFixup)
    (x : ResolvedFixup) → FixupFits ss gs es d x → FixupFits ss gs es (record d { fixups = fs }) x
refit ss gs es d fs x h =
    record { frame = h.frame; target = h.target; together = h.together; whole = h.whole; relative = h.relative }

module _ (ss : List Segment) (gs : List Group) (es : List ExternalSymbol) (o : Option (List (ℕ × ℕ)))
    (fs : List ResolvedFixup)
    (on : (d : DataRecord) → LastFits o (d ∷ []) → AllByRecursion (FixupFits ss gs es d) fs) where
  fit_last : (ds : List DataRecord) → AllByRecursion (DataFitting ss gs es) ds → LastFits o ds
      → AllByRecursion (DataFitting ss gs es) (add_to_last fs ds)
  fit_last [] h l = tt
  fit_last (d ∷ []) h l =
      let k = h.0 in
      let all = all-append (FixupFits ss gs es d) d.fixups fs k.fixups (on d l) in (
        record {
          segment = k.segment;
          is_part = k.is_part;
          inside = k.inside;
          copies = k.copies;
          fixups = all_weaker _ _ (d.fixups ++ fs) (refit ss gs es d (d.fixups ++ fs)) all;
        },
        tt,
      )
  fit_last (d ∷ e ∷ ds) h l = (h.0, fit_last (e ∷ ds) h.1 (last_tail o d e ds l))
    where
      last_tail : (o : Option (List (ℕ × ℕ))) (d e : DataRecord) (ds : List DataRecord) → LastFits o (d ∷ e ∷ ds)
          → LastFits o (e ∷ ds)
      last_tail None d e ds l = tt
      last_tail (Some cs) d e ds l = l

still_last : (o : Option (List (ℕ × ℕ))) (fs : List ResolvedFixup) (ds : List DataRecord) → LastFits o ds
    → LastFits o (add_to_last fs ds)
still_last None fs ds h = tt
still_last (Some cs) fs [] h = tt
still_last (Some cs) fs (d ∷ []) h = h
still_last (Some cs) fs (d ∷ e ∷ []) h = h
still_last (Some cs) fs (d ∷ e ∷ f ∷ ds) h = still_last (Some cs) fs (e ∷ f ∷ ds) h

abbrev with_fixups : State → List ResolvedFixup → State
with_fixups s fs = record s { data_records = add_to_last fs s.data_records }

fixups_keep : (s : State) (fs : List ResolvedFixup) → ((d : DataRecord) → LastFits s.contents (d ∷ []) → OnData s d fs)
    → Promises s → Promises (with_fixups s fs)
fixups_keep s fs on h =
    let m = h.sound in
    record {
      names = h.names;
      sound = record {
        segments = m.segments;
        group_names = m.group_names;
        externals = m.externals;
        public_names = m.public_names;
        groups = m.groups;
        publics = m.publics;
        data_records =
            fit_last s.tables.segments s.tables.groups s.tables.externals s.contents fs on s.data_records m.data_records
            h.last;
        start = m.start;
      };
      last = still_last s.contents fs s.data_records h.last;
    }

subrecord_keeps : (place : ℕ) (s t : State) (x : Subrecord) → step_subrecord place s x ≡ Ok t → Promises s → Promises t
unfolding step_subrecord
subrecord_keeps place s t (sub.SetFrame n m) e h =
    subst Promises (ok_is _ t e) (record { names = h.names; sound = h.sound; last = h.last })
subrecord_keeps place s t (sub.SetTarget n m) e h =
    subst Promises (ok_is _ t e) (record { names = h.names; sound = h.sound; last = h.last })
subrecord_keeps place s t (sub.Fixup x) e h =
    let f = used (slot s.frame_threads) x.reference.frame in
    let g = used (slot s.target_threads) x.reference.target in
    let p =
    by_fault (fixup_fault (module_in s) f g s.contents x) (with_fixups s (option_to_list (fixup_of place x f g))) t e in
    subst Promises p.1
    (fixups_keep s (option_to_list (fixup_of place x f g)) (λ d l. fixup_fits s place x f g d p.0 l) h)

then_ok : (x : Result State CheckFault) (f : State → Result State CheckFault) (t : State) → (x >>= f) ≡ Ok t
    → (u : State) × (x ≡ Ok u) × (f u ≡ Ok t)
then_ok (Ok u) f t e = (u, refl, e)
then_ok (Err c) f t e = cc

subrecords_keep : (place : ℕ) (s t : State) (xs : List Subrecord) → step_subrecords place s xs ≡ Ok t → Promises s
    → Promises t
unfolding step_subrecords
subrecords_keep place s t [] e h = subst Promises (ok_is s t e) h
subrecords_keep place s t (x ∷ xs) e h =
    let p = then_ok (step_subrecord place s x) (λ u. step_subrecords place u xs) t e in
    subrecords_keep place p.0 t xs p.2 (subrecord_keeps place s p.0 x p.1 h)

-- ---- MODEND

no_location : (m : FrameMethod) → location_fault (Some m) ≡ None → m ≡ by.Location → ⊥
no_location (by.By method) e k = cc
no_location by.Location e k = cc
no_location by.Target e k = cc

abbrev StartIsSound : State → Option Start → Type 0
StartIsSound s o = IfSome o (StartFits s.tables.segments s.tables.groups s.tables.externals)

start_fits : (s : State) (place : ℕ) (r : Reference) (f : Option FrameMethod) (t : Option TargetMethod)
    → start_fault (module_in s) f t ≡ None → StartIsSound s s.start
    → StartIsSound s (later (start_of place r f t) s.start)
start_fits s place r None t e h = h
start_fits s place r (Some f) None e h = h
start_fits s place r (Some f) (Some t) e h =
    let a =
    none_both (frame_fault (module_in s) (Some f)) (target_fault (module_in s) (Some t) ⊓ location_fault (Some f)) e in
    let b = none_both (target_fault (module_in s) (Some t)) (location_fault (Some f)) a.1 in
    record {
      frame = frame_means (module_in s) f a.0;
      target = target_means (module_in s) t b.0;
      no_location = no_location f b.1;
    }

abbrev with_start : State → Option Start → State
with_start s o = record s { start = later o s.start }

start_keeps : (s : State) (place : ℕ) (r : Reference) (f : Option FrameMethod) (t : Option TargetMethod)
    → start_fault (module_in s) f t ≡ None → Promises s → Promises (with_start s (start_of place r f t))
start_keeps s place r f t e h =
    let m = h.sound in
    record {
      names = h.names;
      sound = record {
        segments = m.segments;
        group_names = m.group_names;
        externals = m.externals;
        public_names = m.public_names;
        groups = m.groups;
        publics = m.publics;
        data_records = m.data_records;
        start = start_fits s place r f t e m.start;
      };
      last = h.last;
    }

-- ---- one record, and all

record_keeps : (place : ℕ) (s t : State) (r : Record) → HasShortNames r → FitsFields r → step_record place s r ≡ Ok t
    → Promises s → Promises t
unfolding step_record
record_keeps place s t (Theadr name) b f e h = subst Promises (ok_is s t e) h
record_keeps place s t (Coment kind class bytes) b f e h = subst Promises (ok_is s t e) h
record_keeps place s t (Linnum group segment lines) b f e h = subst Promises (ok_is s t e) h
record_keeps place s t (Lnames listed) b f e h = subst Promises (ok_is _ t e) (names_keep s listed b h)
record_keeps place s t (Segdef d) b f e h =
    subst Promises (by_fault (segment_fault s.tables.names d) _ t e).1 (segment_keeps s d f h)
record_keeps place s t (Grpdef name is) b f e h =
    let p = by_fault (group_fault s.tables name is) _ t e in
    let q =
    first_both (when (misses s.tables.names name) NameIndex) (map (λ i. component_fault (entry s.tables.segments i)) is)
    p.0 in
    subst Promises p.1 (group_keeps s name is q.1 h)
record_keeps place s t (Extdef local listed) b f e h =
    subst Promises (ok_is _ t e)
    (externals_keep s (map (external_of local) listed) (externals_short local listed b) h)
record_keeps place s t (Pubdef local base listed) b f e h =
    let p = by_fault (public_fault (module_in s) base) _ t e in
    subst Promises p.1
    (publics_keep s local base listed f.0 (publics_named local base listed b f.1) p.0 h)
record_keeps place s t (Ledata segment offset bytes) b f e h =
    let p = by_fault (data_fault (entry s.tables.segments segment) offset (length bytes)) _ t e in
    subst Promises p.1
    (data_keeps s place segment offset (length bytes) (stored_from 0 bytes) ((0, length bytes) ∷ [])
    (length-stored 0 bytes) (are_copies-stored bytes) p.0 (stored_stand bytes) h)
record_keeps place s t (Lidata segment offset blocks) b f e h =
    let p = by_fault (data_fault (entry s.tables.segments segment) offset (length (expansion blocks))) _ t e in
    subst Promises p.1
    (data_keeps s place segment offset (length (expansion blocks)) (expansion blocks) (contents blocks) refl
    (are_copies blocks) p.0 (repeated_stand blocks) h)
record_keeps place s t (Fixupp subs) b f e h = subrecords_keep place s t subs e h
record_keeps place s t (Modend main None) b f e h = subst Promises (ok_is s t e) h
record_keeps place s t (Modend main (Some r)) b f e h =
    let m = used (slot s.frame_threads) r.frame in
    let g = used (slot s.target_threads) r.target in
    let p = by_fault (start_fault (module_in s) m g) _ t e in
    subst Promises p.1 (start_keeps s place r m g p.0 h)

pub step_keeps : (place : ℕ) (s t : State) (r : Record) → HasShortNames r → FitsFields r → step s place r ≡ Ok t
    → Promises s → Promises t
unfolding step
step_keeps place s t r b f e h =
    let p = then_ok (checked (opening_fault s.begun r) (record s { begun = true })) (λ u. step_record place u r) t e in
    let q = by_fault (opening_fault s.begun r) (record s { begun = true }) p.0 p.1 in
    record_keeps place p.0 t r b f p.2
    (subst Promises q.1 (record { names = h.names; sound = h.sound; last = h.last }))

pub none_promised : Promises (state_of [])
none_promised = record {
  names = tt;
  sound = record {
    segments = tt;
    group_names = tt;
    externals = tt;
    public_names = tt;
    groups = tt;
    publics = tt;
    data_records = tt;
    start = tt;
  };
  last = tt;
}
