-- What stands in a store stays where it is, and what is kept at its end is there.
use Rattle.std.proofs.Common.{◌≡◌, ℕ, ◌-◌, ◌≤◌, ◌<◌, Bool, List, [], ◌∷◌, ◌++◌, length, get_or, take, drop, map}
use Rattle.std.proofs.Common.{Some, refl, subst, sym, ap, ◌∙◌, arith, length-append, length-drop, length-take}
use Rattle.std.specs.List.{AllByRecursion, zip, slice_get}
use Rattle.std.specs.Option.{option_map}
use Rattle.std.proofs.lemmas.Option.{slice_get-map, slice_get_read}
use Rattle.std.proofs.lemmas.List.Elements.{All-from_recursion}
use Rattle.std.proofs.lemmas.List.{append-nil, drop_all, drop-append-le, take-append-le, drop_at, take_at, take-take}
use Rattle.std.proofs.lemmas.List.{take_all, map_push, length-map, length-take-le}
use Rattle.omf_record.proofs.Places.{all-append}
use borrow.Rule.Slice.PartMut.{put_mid, post_of}
use Rattle.omf_module.specs.declared.pieces.Piece.{Piece}
use Rattle.omf_module.specs.declared.entries.SegmentEntry.{SegmentEntry}
use Rattle.omf_module.specs.declared.entries.GroupEntry.{GroupEntry}
use Rattle.omf_module.specs.declared.entries.ExternalEntry.{ExternalEntry}
use Rattle.omf_module.specs.declared.entries.PublicEntry.{PublicEntry}
use Rattle.omf_module.specs.declared.entries.DataEntry.{DataEntry}
use Rattle.omf_record.specs.declared.externals.PublicBase.{PublicBase}
use Rattle.omf_module.specs.Module.{Segment, Group, DataRecord}
use Rattle.omf_module.specs.inside.Store.{Kept, elements, segment, group, external, public_symbol, places_piece}
use Rattle.omf_module.specs.inside.Store.{data_record, IsIn, SegmentIsIn, GroupIsIn, ExternalIsIn, PublicIsIn, DataIsIn}
use Rattle.omf_module.specs.inside.Store.{Holds, Entries, kept, AreIn}

pub all_push : {X : Type 0} (P : X → Type 0) (xs : List X) (x : X) → AllByRecursion P xs → P x
    → AllByRecursion P (xs ++ x ∷ [])
all_push P xs x h p = all-append P xs (x ∷ []) h (p, tt)

-- entries that say the same, and stay in bounds
all_stay : {E V : Type 0} (see see' : E → V) (In In' : E → Type 0) → ((e : E) → In e → (see' e ≡ see e) × In' e)
    → (xs : List E) → AllByRecursion In xs → (map see' xs ≡ map see xs) × AllByRecursion In' xs
all_stay see see' In In' one [] h = (refl, tt)
all_stay see see' In In' one (x ∷ xs) h =
    let here = one x h.0 in
    let more = all_stay see see' In In' one xs h.1 in
    (ap (λ v. v ∷ map see' xs) here.0 ∙ ap (λ vs. see x ∷ vs) more.0, (here.1, more.1))

pub piece_stays : {X : Type 0} (xs more : List X) (p : Piece) → IsIn xs p
    → (elements (xs ++ more) p ≡ elements xs p) × IsIn (xs ++ more) p
piece_stays xs more p h =
    let a : p.from ≤ length xs = omega arith in
    let b : p.len ≤ length (drop p.from xs) = omega (arith, length-drop p.from xs) in (
      ap (take p.len) (drop-append-le p.from xs more a)
          ∙ take-append-le p.len (drop p.from xs) more b,
      omega (arith, length-append xs more),
    )

segment_stays : (bytes more : List ℕ) (s : SegmentEntry) → SegmentIsIn bytes s
    → (segment (bytes ++ more) s ≡ segment bytes s) × SegmentIsIn (bytes ++ more) s
segment_stays bytes more s h =
    let n = piece_stays bytes more s.name h.0 in
    let c = piece_stays bytes more s.class h.1 in
    (rw (n.0, c.0) refl, (n.1, c.1))

group_stays : {A : Type 0} (bytes more : List ℕ) (g : GroupEntry A) → GroupIsIn bytes g
    → (group (bytes ++ more) g ≡ group bytes g) × GroupIsIn (bytes ++ more) g
group_stays bytes more g h =
    let n = piece_stays bytes more g.name h in
    (rw n.0 refl, n.1)

external_stays : (bytes more : List ℕ) (x : ExternalEntry) → ExternalIsIn bytes x
    → (external (bytes ++ more) x ≡ external bytes x) × ExternalIsIn (bytes ++ more) x
external_stays bytes more x h =
    let n = piece_stays bytes more x.name h in
    (rw n.0 refl, n.1)

public_stays : (bytes more : List ℕ) (p : PublicEntry) → PublicIsIn bytes p
    → (public_symbol (bytes ++ more) p ≡ public_symbol bytes p) × PublicIsIn (bytes ++ more) p
public_stays bytes more p h =
    let n = piece_stays bytes more p.name h in
    (rw n.0 refl, n.1)

data_stays : {A : Type 0} (bytes more places more' : List ℕ) (d : DataEntry A) → DataIsIn bytes places d
    → (data_record (bytes ++ more) (places ++ more') d ≡ data_record bytes places d)
    × DataIsIn (bytes ++ more) (places ++ more') d
data_stays bytes more places more' d h =
    let b = piece_stays bytes more d.bytes h.0 in
    let p = piece_stays places more' (places_piece d) h.1 in
    (rw (b.0, p.0) refl, (b.1, p.1))

-- longer lists
pub stays : {A : Type 0} (bytes more places more' : List ℕ) (e : Entries A) → AreIn bytes places e
    → (kept (bytes ++ more) (places ++ more') e ≡ kept bytes places e) × AreIn (bytes ++ more) (places ++ more') e
stays bytes more places more' e h =
    let n =
    all_stay (elements bytes) (elements (bytes ++ more)) (IsIn bytes) (IsIn (bytes ++ more))
    (λ p k. piece_stays bytes more p k) e.names h.names in
    let s =
    all_stay (segment bytes) (segment (bytes ++ more)) (SegmentIsIn bytes) (SegmentIsIn (bytes ++ more))
    (λ p k. segment_stays bytes more p k) e.segments h.segments in
    let g =
    all_stay (group bytes) (group (bytes ++ more)) (GroupIsIn bytes) (GroupIsIn (bytes ++ more))
    (λ p k. group_stays bytes more p k) e.groups h.groups in
    let x =
    all_stay (external bytes) (external (bytes ++ more)) (ExternalIsIn bytes) (ExternalIsIn (bytes ++ more))
    (λ x k. external_stays bytes more x k) e.externals h.externals in
    let p =
    all_stay (public_symbol bytes) (public_symbol (bytes ++ more)) (PublicIsIn bytes) (PublicIsIn (bytes ++ more))
    (λ p k. public_stays bytes more p k) e.publics h.publics in
    let d =
    all_stay (data_record bytes places) (data_record (bytes ++ more) (places ++ more')) (DataIsIn bytes places)
    (DataIsIn (bytes ++ more) (places ++ more')) (λ d k. data_stays bytes more places more' d k) e.data_records
    h.data_records in (
      rw (n.0, s.0, g.0, x.0, p.0, d.0) refl,
      record {
        names = n.1;
        segments = s.1;
        groups = g.1;
        externals = x.1;
        publics = p.1;
        data_records = d.1;
      },
    )

pub bytes_stay : {A : Type 0} (bytes more places : List ℕ) (e : Entries A) → AreIn bytes places e
    → (kept (bytes ++ more) places e ≡ kept bytes places e) × AreIn (bytes ++ more) places e
bytes_stay bytes more places e h = rw append-nil at (stays bytes more places [] e h)

pub places_stay : {A : Type 0} (bytes places more : List ℕ) (e : Entries A) → AreIn bytes places e
    → AreIn bytes (places ++ more) e
places_stay bytes places more e h = (rw append-nil at (stays bytes [] places more e h)).1

-- what stands in a piece
pub length_elements : {X : Type 0} (xs : List X) (p : Piece) → IsIn xs p → length (elements xs p) ≡ p.len
length_elements xs p h = length-take-le p.len (drop p.from xs) (omega (arith, length-drop p.from xs))

-- what the entry at an index says, and that it lies in its lists
pub said_at : {E V : Type 0} (see : E → V) (In : E → Type 0) (es : List E) {vs : List V} (i : ℕ) (e : E)
    → map see es ≡ vs → AllByRecursion In es → i < length vs → e ≡ get_or es i e
    → (slice_get vs i ≡ Some (see e)) × In e
said_at see In es i e is all lt at =
    let inside : i < length es = omega (arith, ap length is, length-map es see, lt) in (
      ap (λ xs. slice_get xs i) (sym is) ∙ slice_get-map see es i
          ∙ ap (option_map see) (slice_get_read es (length es) i e refl inside at),
      subst In (sym at) (All-from_recursion In es all i e inside),
    )

-- the piece that was kept last
abbrev pub last_of : {X : Type 0} → List X → List X → Piece
last_of xs piece = record { from = length xs; len = length piece }

pub last_piece : {X : Type 0} (xs piece : List X) → elements (xs ++ piece) (last_of xs piece) ≡ piece
last_piece xs piece =
    ap (take (length piece)) (drop_at xs piece (length xs) refl) ∙ take_all (length piece) piece (omega arith)

pub last_is_in : {X : Type 0} (xs piece : List X) → IsIn (xs ++ piece) (last_of xs piece)
last_is_in xs piece = omega (arith, length-append xs piece)

-- a piece with which another one begins
pub begins_in : {X : Type 0} (xs piece : List X) (p : Piece) → IsIn xs p → length piece ≤ length (elements xs p)
    → piece ≡ take (length piece) (elements xs p) → Holds xs (record { from = p.from; len = length piece }) piece
begins_in xs piece p h le e =
    let short : length piece ≤ p.len = omega (arith, le, length-take p.len (drop p.from xs)) in
    (omega arith, sym (e ∙ take-take (length piece) p.len (drop p.from xs) short))

-- what was laid behind a list, and then perhaps cut off again, where it stands already
pub once_kept : (places laid now cut : List ℕ) (from at len : ℕ) → now ≡ places ++ laid → from ≡ length places
    → len ≡ length laid → (more : List ℕ) × (cut ≡ take from now ++ more)
    → Holds cut (record { from = at; len = length now - from }) (drop from now)
    → (more : List ℕ) × (cut ≡ places ++ more) × Holds (places ++ more) (record { from = at; len = len }) laid
once_kept places laid now cut from at len is f l k h =
    let front : take from now ≡ places = rw is (take_at places laid from (sym f)) in
    let back : drop from now ≡ laid = rw is (drop_at places laid from (sym f)) in
    let count : length now - from ≡ len = omega (arith, ap length is, length-append places laid, f, l) in
    let grown : cut ≡ places ++ k.0 = rw front at k.1 in
    (k.0, grown, rw (count, back, grown) at h)

-- a list made longer: where what is new begins, and how much of it there is
pub behind_from : {X : Type 0} (front more now slice : List X) (from : ℕ) → from ≡ length front
    → now ≡ front ++ more → slice ≡ now → from ≤ length slice
behind_from front more now slice from f is same =
    omega (arith, f, ap length same, ap length is, length-append front more)

pub behind_long : {X : Type 0} (front more now slice : List X) (from : ℕ) → from ≡ length front
    → now ≡ front ++ more → slice ≡ now → length (take (length slice - from) (drop from slice)) ≡ length more
behind_long front more now slice from f is same =
    omega (
      arith,
      f,
      ap length same,
      ap length is,
      length-append front more,
      length-drop from slice,
      length-take (length slice - from) (drop from slice),
    )

-- a list, after all that stood behind its front was written anew
pub written_behind : {X : Type 0} (front more now slice written said : List X) (from n : ℕ) → from ≡ length front
    → now ≡ front ++ more → slice ≡ now → n ≡ length now → written ≡ said → length said ≡ length more
    → take n
    (put_mid from (length slice - from) slice written
    ++ drop (length (put_mid from (length slice - from) slice written)) now) ≡ front ++ said
written_behind front more now slice written said from n f is same size fill len =
    let before : take from slice ≡ front = rw (same, is) (take_at front more from (sym f)) in
    let none : post_of from (length slice - from) slice ≡ [] =
    drop_all (length slice - from) (drop from slice) (omega (arith, length-drop from slice)) in
    let whole : put_mid from (length slice - from) slice written ≡ front ++ said =
    rw (before, none, fill) (ap (λ ys. front ++ ys) (append-nil said)) in
    let all : length (front ++ said) ≡ length now =
    omega (arith, ap length is, length-append front more, length-append front said, len) in
    rw (whole, drop_all (length (front ++ said)) now (omega (arith, all)), append-nil (front ++ said))
    (take_all n (front ++ said) (omega (arith, all, size)))

-- what a store says and where it lies, with one entry more
module _ {A : Type 0} (bytes places : List ℕ) (e : Entries A) (h : AreIn bytes places e) where
  abbrev named : Piece → Entries A
  named p = record {
    names = e.names ++ p ∷ [];
    segments = e.segments;
    groups = e.groups;
    externals = e.externals;
    publics = e.publics;
    data_records = e.data_records;
  }

  pub name_kept : (name : List ℕ)
      → kept (bytes ++ name) places (named (last_of bytes name))
      ≡ record (kept bytes places e) { names = (kept bytes places e).names ++ name ∷ [] }
  name_kept name =
      let s = bytes_stay bytes name places e h in
      let n : map (elements (bytes ++ name)) (e.names ++ last_of bytes name ∷ [])
      ≡ map (elements (bytes ++ name)) e.names ++ name ∷ [] =
      map_push _ e.names (last_of bytes name)
      ∙ ap (λ x. map (elements (bytes ++ name)) e.names ++ x ∷ []) (last_piece bytes name) in
      ap (λ ns. record (kept (bytes ++ name) places e) { names = ns }) n
      ∙ ap (λ (k : Kept). record k { names = k.names ++ name ∷ [] }) s.0

  pub name_in : (name : List ℕ) → AreIn (bytes ++ name) places (named (last_of bytes name))
  name_in name =
      let s = (bytes_stay bytes name places e h).1 in
      record {
        names = all_push (IsIn (bytes ++ name)) e.names (last_of bytes name) s.names (last_is_in bytes name);
        segments = s.segments;
        groups = s.groups;
        externals = s.externals;
        publics = s.publics;
        data_records = s.data_records;
      }

  abbrev segmented : SegmentEntry → Entries A
  segmented p = record {
    names = e.names;
    segments = e.segments ++ p ∷ [];
    groups = e.groups;
    externals = e.externals;
    publics = e.publics;
    data_records = e.data_records;
  }

  pub segment_kept : (p : SegmentEntry) {said : Segment} → segment bytes p ≡ said
      → kept bytes places (segmented p)
      ≡ record (kept bytes places e) { segments = (kept bytes places e).segments ++ said ∷ [] }
  segment_kept p says =
      ap (λ ns. record (kept bytes places e) { segments = ns })
      (map_push (segment bytes) e.segments p ∙ ap (λ x. map (segment bytes) e.segments ++ x ∷ []) says)

  pub segment_in : (p : SegmentEntry) → SegmentIsIn bytes p → AreIn bytes places (segmented p)
  segment_in p i = record {
    names = h.names;
    segments = all_push (SegmentIsIn bytes) e.segments p h.segments i;
    groups = h.groups;
    externals = h.externals;
    publics = h.publics;
    data_records = h.data_records;
  }

  abbrev grouped : GroupEntry A → Entries A
  grouped p = record {
    names = e.names;
    segments = e.segments;
    groups = e.groups ++ p ∷ [];
    externals = e.externals;
    publics = e.publics;
    data_records = e.data_records;
  }

  pub group_kept : (p : GroupEntry A) {said : Group} → group bytes p ≡ said
      → kept bytes places (grouped p)
      ≡ record (kept bytes places e) { groups = (kept bytes places e).groups ++ said ∷ [] }
  group_kept p says =
      ap (λ ns. record (kept bytes places e) { groups = ns })
      (map_push (group bytes) e.groups p ∙ ap (λ x. map (group bytes) e.groups ++ x ∷ []) says)

  pub group_in : (p : GroupEntry A) → GroupIsIn bytes p → AreIn bytes places (grouped p)
  group_in p i = record {
    names = h.names;
    segments = h.segments;
    groups = all_push (GroupIsIn bytes) e.groups p h.groups i;
    externals = h.externals;
    publics = h.publics;
    data_records = h.data_records;
  }

  abbrev externed : ExternalEntry → Entries A
  externed p = record {
    names = e.names;
    segments = e.segments;
    groups = e.groups;
    externals = e.externals ++ p ∷ [];
    publics = e.publics;
    data_records = e.data_records;
  }

  abbrev external_entry : List ℕ → Bool → ExternalEntry
  external_entry name local = record { name = last_of bytes name; local = local }

  pub external_kept : (name : List ℕ) (local : Bool)
      → kept (bytes ++ name) places (externed (external_entry name local))
      ≡ record (kept bytes places e) {
        externals = (kept bytes places e).externals ++ record { name = name; local = local } ∷ [];
      }
  external_kept name local =
      let s = bytes_stay bytes name places e h in
      let n : map (external (bytes ++ name)) (e.externals ++ external_entry name local ∷ [])
      ≡ map (external (bytes ++ name)) e.externals ++ record { name = name; local = local } ∷ [] =
      map_push _ e.externals (external_entry name local)
      ∙ ap (λ x. map (external (bytes ++ name)) e.externals ++ record { name = x; local = local } ∷ [])
      (last_piece bytes name) in
      ap (λ ns. record (kept (bytes ++ name) places e) { externals = ns }) n
      ∙ ap (λ (k : Kept). record k { externals = k.externals ++ record { name = name; local = local } ∷ [] }) s.0

  pub external_in : (name : List ℕ) (local : Bool) → AreIn (bytes ++ name) places (externed (external_entry name local))
  external_in name local =
      let s = (bytes_stay bytes name places e h).1 in
      record {
        names = s.names;
        segments = s.segments;
        groups = s.groups;
        externals =
            all_push (ExternalIsIn (bytes ++ name)) e.externals (external_entry name local) s.externals
            (last_is_in bytes name);
        publics = s.publics;
        data_records = s.data_records;
      }

  abbrev published : PublicEntry → Entries A
  published p = record {
    names = e.names;
    segments = e.segments;
    groups = e.groups;
    externals = e.externals;
    publics = e.publics ++ p ∷ [];
    data_records = e.data_records;
  }

  abbrev public_entry : List ℕ → PublicBase → ℕ → Bool → PublicEntry
  public_entry name base offset local =
      record { name = last_of bytes name; base = base; offset = offset; local = local }

  pub public_kept : (name : List ℕ) (base : PublicBase) (offset : ℕ) (local : Bool)
      → kept (bytes ++ name) places (published (public_entry name base offset local))
      ≡ record (kept bytes places e) {
        publics =
            (kept bytes places e).publics ++ record { name = name; base = base; offset = offset; local = local } ∷ [];
      }
  public_kept name base offset local =
      let s = bytes_stay bytes name places e h in
      let n : map (public_symbol (bytes ++ name)) (e.publics ++ public_entry name base offset local ∷ [])
      ≡ map (public_symbol (bytes ++ name)) e.publics
      ++ record { name = name; base = base; offset = offset; local = local } ∷ [] =
      map_push _ e.publics (public_entry name base offset local)
      ∙ ap
      (λ x.
      map (public_symbol (bytes ++ name)) e.publics ++ record { name = x; base = base; offset = offset; local = local }
      ∷ []) (last_piece bytes name) in
      ap (λ ns. record (kept (bytes ++ name) places e) { publics = ns }) n
      ∙ ap (λ (k : Kept). record k {
        publics = k.publics ++ record { name = name; base = base; offset = offset; local = local } ∷ [];
      }) s.0

  pub public_in : (name : List ℕ) (base : PublicBase) (offset : ℕ) (local : Bool)
      → AreIn (bytes ++ name) places (published (public_entry name base offset local))
  public_in name base offset local =
      let s = (bytes_stay bytes name places e h).1 in
      record {
        names = s.names;
        segments = s.segments;
        groups = s.groups;
        externals = s.externals;
        publics =
            all_push (PublicIsIn (bytes ++ name)) e.publics (public_entry name base offset local) s.publics
            (last_is_in bytes name);
        data_records = s.data_records;
      }

  abbrev stored : DataEntry A → Entries A
  stored d = record {
    names = e.names;
    segments = e.segments;
    groups = e.groups;
    externals = e.externals;
    publics = e.publics;
    data_records = e.data_records ++ d ∷ [];
  }

  -- its bytes are kept last, and its stored places, these or others, stand somewhere
  abbrev is_data : (more added stored_at : List ℕ) → DataEntry A → Type 0
  is_data more added stored_at d =
      (d.bytes ≡ last_of bytes more) × IsIn (places ++ added) (places_piece d)
      × (elements (places ++ added) (places_piece d) ≡ stored_at) × (d.fixups.items ≡ [])

  abbrev plain_data : DataEntry A → List (ℕ × ℕ) → DataRecord
  plain_data d pairs = record { place = d.place; segment = d.segment; offset = d.offset; pairs = pairs; fixups = [] }

  pub data_kept : (more added stored_at : List ℕ) (d : DataEntry A) → is_data more added stored_at d
      → kept (bytes ++ more) (places ++ added) (stored d)
      ≡ record (kept bytes places e) {
        data_records = (kept bytes places e).data_records ++ plain_data d (zip stored_at more) ∷ [];
      }
  data_kept more added stored_at d k =
      let s = stays bytes more places added e h in
      let b : elements (bytes ++ more) d.bytes ≡ more = ap (elements (bytes ++ more)) k.0 ∙ last_piece bytes more in
      let one : data_record (bytes ++ more) (places ++ added) d ≡ plain_data d (zip stored_at more) =
      ap (λ x. record {
        place = d.place;
        segment = d.segment;
        offset = d.offset;
        pairs = zip x (elements (bytes ++ more) d.bytes);
        fixups = d.fixups.items;
      }) k.2
      ∙ ap (λ x. record {
        place = d.place;
        segment = d.segment;
        offset = d.offset;
        pairs = zip stored_at x;
        fixups = d.fixups.items;
      }) b
      ∙ ap (λ x. record {
        place = d.place;
        segment = d.segment;
        offset = d.offset;
        pairs = zip stored_at more;
        fixups = x;
      }) k.3 in
      let n : map (data_record (bytes ++ more) (places ++ added)) (e.data_records ++ d ∷ [])
      ≡ map (data_record (bytes ++ more) (places ++ added)) e.data_records ++ plain_data d (zip stored_at more) ∷ [] =
      map_push _ e.data_records d
      ∙ ap (λ x. map (data_record (bytes ++ more) (places ++ added)) e.data_records ++ x ∷ []) one in
      ap (λ ns. record (kept (bytes ++ more) (places ++ added) e) { data_records = ns }) n
      ∙ ap (λ (k : Kept). record k { data_records = k.data_records ++ plain_data d (zip stored_at more) ∷ [] }) s.0

  pub data_kept_as : (more added stored_at : List ℕ) (d : DataEntry A) (pairs : List (ℕ × ℕ))
      → is_data more added stored_at d → zip stored_at more ≡ pairs
      → kept (bytes ++ more) (places ++ added) (stored d)
      ≡ record (kept bytes places e) { data_records = (kept bytes places e).data_records ++ plain_data d pairs ∷ [] }
  data_kept_as more added stored_at d pairs k z =
      data_kept more added stored_at d k
      ∙ ap (λ zs. record (kept bytes places e) {
        data_records = (kept bytes places e).data_records ++ plain_data d zs ∷ [];
      }) z

  pub data_in : (more added stored_at : List ℕ) (d : DataEntry A) → is_data more added stored_at d
      → AreIn (bytes ++ more) (places ++ added) (stored d)
  data_in more added stored_at d k =
      let s = (stays bytes more places added e h).1 in
      let b : IsIn (bytes ++ more) d.bytes = rw k.0 (last_is_in bytes more) in
      record {
        names = s.names;
        segments = s.segments;
        groups = s.groups;
        externals = s.externals;
        publics = s.publics;
        data_records = all_push (DataIsIn (bytes ++ more) (places ++ added)) e.data_records d s.data_records (b, k.1);
      }
