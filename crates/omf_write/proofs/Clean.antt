-- Records one after the other, that fit their frames and that no check refuses.
use Rattle.std.proofs.Common.{◌≡◌, ℕ, zero, suc, ◌+◌, ◌<◌, ◌≤◌, Bool, true, false, ◌||◌, ltb, List, [], ◌∷◌, ◌++◌}
use Rattle.std.proofs.Common.{length, map, Option, None, refl, ap, sym, ◌∙◌, subst, arith, length-append, lit<}
use Rattle.std.proofs.lemmas.Bool.{ltb-true}
use Rattle.std.specs.List.{AllByRecursion}
use Rattle.std.specs.Option.{option_map}
use Rattle.omf_frame.specs.Frame.{AreFrames, closing_byte, place_limit}
use Rattle.omf_frame.proofs.Frames.{framed-frame}
use Rattle.omf_record.specs.Record.{Record, Theadr, Coment, Modend, Extdef, Pubdef, Linnum, Lnames, Segdef, Grpdef}
use Rattle.omf_record.specs.Record.{Fixupp, Ledata, Lidata}
use Rattle.omf_record.specs.Body.{Body, kind_of}
use Rattle.omf_record.specs.Canonical.{FitsFrame, canonical}
use Rattle.omf_record.specs.Records.{AreToEnd, Placed, frame_of_record, is_end}
use Rattle.omf_record.proofs.RecordLaws.{body_bytes}
use Rattle.omf_module.specs.declared.fault.CheckFault.{CheckFault}
use Rattle.omf_module.specs.declared.fault.CheckFault.TheVariants.{GroupOfAbsolute}
use Rattle.omf_module.specs.Before.{along, entry, first}
use Rattle.omf_module.specs.Faults.{component_fault, fault, is_absolute, items}
use Rattle.omf_module.specs.inside.Checking.{begun, when}
use Rattle.omf_module.specs.Module.{Segment}
use Rattle.omf_module.specs.Tables.{groups_in, names, segments_in}
use Rattle.omf_module.specs.inside.Said.{groups, segments}
use Rattle.omf_module.specs.inside.Said.{names_in}
use Rattle.omf_module.proofs.Lists.{along_push, flat_map_push}
use Rattle.omf_module.proofs.Growing.{begun_push}
use Rattle.omf_write.specs.Records.{record_bytes, records_bytes}

-- records as they stand from a place on
abbrev pub place_all : (at : ℕ) → List Record → List Placed
place_all at [] = []
place_all at (r ∷ rs) =
    record { place = at; body = canonical r; says = r } ∷ place_all (at + length (record_bytes r)) rs

pub kind_small : (r : Record) → kind_of r < 256
kind_small (Theadr name) = lit< tt
kind_small (Coment kind class bytes) = lit< tt
kind_small (Modend main start) = lit< tt
kind_small (Extdef true ns) = lit< tt
kind_small (Extdef false ns) = lit< tt
kind_small (Pubdef true b ps) = lit< tt
kind_small (Pubdef false b ps) = lit< tt
kind_small (Linnum group segment lines) = lit< tt
kind_small (Lnames ns) = lit< tt
kind_small (Segdef s) = lit< tt
kind_small (Grpdef name ss) = lit< tt
kind_small (Fixupp ss) = lit< tt
kind_small (Ledata segment offset bytes) = lit< tt
kind_small (Lidata segment offset blocks) = lit< tt

pub length-record : (r : Record) → length (record_bytes r) ≡ length (canonical r) + 4
length-record r = omega (arith, length-append (canonical r) (closing_byte (kind_of r) (canonical r) ∷ []))

pub are_frames : (at : ℕ) (rs : List Record) → AllByRecursion FitsFrame rs
    → at + length (records_bytes rs) < place_limit
    → AreFrames at (map frame_of_record (place_all at rs)) (records_bytes rs)
are_frames at [] fits h = refl
are_frames at (r ∷ rs) fits h =
    let sum : length (records_bytes (r ∷ rs)) ≡ length (record_bytes r) + length (records_bytes rs) =
    length-append (record_bytes r) (records_bytes rs) in (
      record_bytes r,
      records_bytes rs,
      refl,
      refl,
      omega (arith, h),
      framed-frame (kind_of r) (canonical r) (kind_small r) (body_bytes r (canonical r) fits.0.body) fits.0.short,
      are_frames (at + length (record_bytes r)) rs fits.1 (omega (arith, h, sum)),
    )

pub are_bodies : (at : ℕ) (rs : List Record) → AllByRecursion FitsFrame rs
    → AllByRecursion (λ (r : Placed). Body r.says r.body) (place_all at rs)
are_bodies at [] fits = tt
are_bodies at (r ∷ rs) fits = (fits.0.body, are_bodies (at + length (record_bytes r)) rs fits.1)

-- ---- the end

pub ended : (fs : List Record) → AllByRecursion (λ r. is_end r ≡ false) fs → (rs : List Record)
    → ((at : ℕ) → AreToEnd (place_all at rs)) → (at : ℕ) → AreToEnd (place_all at (fs ++ rs))
ended [] none rs whole at = whole at
ended (f ∷ fs) none rs whole at =
    behind (place_all (at + length (record_bytes f)) (fs ++ rs))
    (ended fs none.1 rs whole (at + length (record_bytes f)))
  where
    behind : (ps : List Placed) → AreToEnd ps → AreToEnd (record { place = at; body = canonical f; says = f } ∷ ps)
    behind [] h = absurd h
    behind (p ∷ ps) h = (none.0, h)

pub All-append : {X : Type 0} (P : X → Type 0) (xs ys : List X) → AllByRecursion P xs → AllByRecursion P ys
    → AllByRecursion P (xs ++ ys)
All-append P [] ys h k = k
All-append P (x ∷ xs) ys h k = (h.0, All-append P xs ys h.1 k)

-- ---- no check refuses it

-- no check refuses these behind those
abbrev pub Clean : List Placed → List Placed → Type 0
Clean before [] = Unit {0}
Clean before (r ∷ rs) = (fault before r.says ≡ None) × Clean (before ++ r ∷ []) rs

-- what the checks find at a record
abbrev pub found_at : List Placed → Placed → List (Option (ℕ × CheckFault))
found_at front r = option_map (λ check. (r.place, check)) (fault front r.says) ∷ []

pub clean_first : (before rs : List Placed) → Clean before rs → first (along before found_at rs) ≡ None
clean_first before [] h = refl
clean_first before (r ∷ rs) h =
    ap (λ (o : Option CheckFault).
    first {A = ℕ × CheckFault} (option_map (λ check. (r.place, check)) o ∷ along (before ++ r ∷ []) found_at rs))
    h.0
    ∙ clean_first (before ++ r ∷ []) rs h.1

-- what records say so far: how many names, segments and groups, and no segment is absolute
pub record Ready (n s g : ℕ) (before : List Placed) : Type 0 where
  pub is_begun : begun before ≡ true
  pub name_count : length (names before) ≡ n
  pub segment_count : length (segments before) ≡ s
  pub group_count : length (groups before) ≡ g
  pub relocatable : AllByRecursion (λ (x : Segment). is_absolute x.standing ≡ false) (segments before)

pub names-push : (before : List Placed) (x : Placed) → names (before ++ x ∷ []) ≡ names before ++ names_in x.says
names-push before x = flat_map_push (λ (placed : Placed). names_in placed.says) before x

pub segments-push : (before : List Placed) (x : Placed)
    → segments (before ++ x ∷ []) ≡ segments before ++ segments_in (names before) x.says
segments-push before x = along_push (λ front (placed : Placed). segments_in (names front) placed.says) before x

pub groups-push : (before : List Placed) (x : Placed)
    → groups (before ++ x ∷ []) ≡ groups before ++ groups_in (names before) x.says
groups-push before x = along_push (λ front (placed : Placed). groups_in (names front) placed.says) before x

-- one record more, by how many names, segments and groups it has
pub ready-more : (n s g : ℕ) (before : List Placed) (x : Placed) → Ready n s g before →
    AllByRecursion (λ (y : Segment). is_absolute y.standing ≡ false) (segments_in (names before) x.says) →
    Ready (n + length (names_in x.says)) (s + length (segments_in (names before) x.says))
    (g + length (groups_in (names before) x.says)) (before ++ x ∷ [])
ready-more n s g before x r all = record {
  is_begun = begun_push before x;
  name_count =
      ap length (names-push before x) ∙ length-append (names before) (names_in x.says)
      ∙ ap (λ k. k + length (names_in x.says)) r.name_count;
  segment_count =
      ap length (segments-push before x) ∙ length-append (segments before) (segments_in (names before) x.says)
      ∙ ap (λ k. k + length (segments_in (names before) x.says)) r.segment_count;
  group_count =
      ap length (groups-push before x) ∙ length-append (groups before) (groups_in (names before) x.says)
      ∙ ap (λ k. k + length (groups_in (names before) x.says)) r.group_count;
  relocatable =
      subst (λ ss. AllByRecursion (λ (y : Segment). is_absolute y.standing ≡ false) ss) (sym (segments-push before x))
      (All-append (λ (y : Segment). is_absolute y.standing ≡ false) (segments before)
      (segments_in (names before) x.says) r.relocatable all);
}

pub ready-as : (n s g m t h : ℕ) (before : List Placed) → n ≡ m → s ≡ t → g ≡ h → Ready n s g before
    → Ready m t h before
ready-as n s g m t h before e f k r = record {
  is_begun = r.is_begun;
  name_count = r.name_count ∙ e;
  segment_count = r.segment_count ∙ f;
  group_count = r.group_count ∙ k;
  relocatable = r.relocatable;
}

pub clean_by : (before : List Placed) (r : Record) → begun before ≡ true → first (items before r) ≡ None
    → fault before r ≡ None
clean_by [] r b h = cc
clean_by (x ∷ before) r b h = h

pub not_below : (a b : ℕ) → b ≤ a → ltb a b ≡ false
not_below a b h = (elim (ltb a b) as (λ t. ltb a b ≡ t → t ≡ false) [
  | true ↦ λ e. absurd (let l = ltb-true _ _ e in omega (arith, l, h))
  | false ↦ λ e. refl
]) refl

pub both_false : (a b : Bool) → a ≡ false → b ≡ false → (a || b) ≡ false
both_false a b e f = ap (λ t. t || b) e ∙ f

pub component_ok : (ss : List Segment) (k : ℕ) → AllByRecursion (λ (x : Segment). is_absolute x.standing ≡ false) ss
    → k < length ss → component_fault (entry ss (suc k)) ≡ None
component_ok [] k all h = absurd (omega (arith, h))
component_ok (s ∷ ss) zero all h = ap (λ t. when t GroupOfAbsolute) all.0
component_ok (s ∷ ss) (suc k) all h = component_ok ss k all.1 (omega (arith, h))

pub nones : (os : List (Option CheckFault)) → AllByRecursion (λ o. o ≡ None) os → first os ≡ None
nones [] h = refl
nones (o ∷ os) h = ap (λ x. first (x ∷ os)) h.0 ∙ nones os h.1

pub clean_end : (before : List Placed) (at : ℕ) → begun before ≡ true
    → Clean before (place_all at (Modend false None ∷ []))
clean_end before at b = (clean_by before (Modend false None) b refl, tt)
