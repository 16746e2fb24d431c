-- What the records of variables give: names, segments, groups and publics, and nothing else.
use Rattle.std.proofs.Common.{◌≡◌, ℕ, ◌+◌, Bool, true, false, cond, eqb, List, [], ◌∷◌, ◌++◌, length, map}
use Rattle.std.proofs.Common.{Option, Some, None, refl, ap, ap₂, sym, subst, ◌∙◌, arith, append_assoc, length-append}
use Rattle.std.specs.Prelude.{codes}
use Rattle.std.specs.List.{AllByRecursion, flat_map}
use Rattle.std.proofs.lemmas.Grind.{flat_map-append}
use Rattle.std.proofs.lemmas.List.{append-nil}
use Rattle.omf_record.specs.Record.{Record, Theadr, Coment, Modend, Extdef, Pubdef, Linnum, Lnames, Segdef, Grpdef}
use Rattle.omf_record.specs.Record.{Fixupp, Ledata, Lidata}
use Rattle.omf_record.specs.Canonical.{canonical}
use Rattle.omf_record.specs.Records.{Placed}
use Rattle.omf_module.specs.declared.Kind.TheVariants.{Private, Public}
use Rattle.omf_module.specs.declared.Standing.TheVariants.{Relocatable}
use Rattle.omf_record.specs.declared.segments.SegmentLength.TheVariants as len
use Rattle.omf_record.specs.Numbers.{segment_len}
use Rattle.std.proofs.lemmas.Bool.{eqb-true}
use Rattle.omf_module.specs.Before.{along}
use Rattle.omf_module.specs.Module.{Group, Segment}
use Rattle.omf_module.specs.Tables.{data_in, data_of, externals_in, groups_in, names, publics_in, segments_in}
use Rattle.omf_module.specs.inside.Said.{externals, names_in, subrecords_in}
use Rattle.omf_module.proofs.Lists.{along_from_append}
use Rattle.omf_write.specs.Records.{record_bytes, records_bytes}
use Rattle.omf_write.specs.Segments.{length_of}
use Rattle.omf_write.proofs.Clean.{All-append, names-push, place_all}
use Rattle.omf_communal.specs.LocalModule.{far_segment, local_public, near_groups, near_segments}
use Rattle.omf_communal.specs.Plan.{Place, Plan, nothing_before}
use Rattle.omf_communal.specs.Records.{dgroup, far_record, near_definition, near_name, near_records, place_record}
use Rattle.omf_communal.specs.Records.{placed_records, variable_records}

-- ---- what records give

-- by themselves
pub flat-placed : {A : Type 0} (f : Record → List A) (before : List Placed) (at : ℕ) (rs : List Record)
    → flat_map (λ (r : Placed). f r.says) (before ++ place_all at rs)
    ≡ flat_map (λ (r : Placed). f r.says) before ++ flat_map f rs
flat-placed f before at rs =
    flat_map-append (λ (r : Placed). f r.says) before (place_all at rs)
    ∙ ap (λ l. flat_map (λ (r : Placed). f r.says) before ++ l) (by-says at rs)
  where
    by-says : (at : ℕ) (rs : List Record) → flat_map (λ (r : Placed). f r.says) (place_all at rs) ≡ flat_map f rs
    by-says at [] = refl
    by-says at (r ∷ rs) = ap (λ l. f r ++ l) (by-says (at + length (record_bytes r)) rs)

-- the records of variables
abbrev pub IsOurs : Record → Type 0
IsOurs (Lnames ns) = Unit {0}
IsOurs (Segdef s) = Unit {0}
IsOurs (Grpdef name ss) = Unit {0}
IsOurs (Pubdef local b ps) = Unit {0}
IsOurs _ = ⊥

near_ours : (o : Option ℕ) → AllByRecursion IsOurs (near_records nothing_before o)
near_ours None = tt
near_ours (Some n) = (tt, (tt, tt))

far_ours : (ns : List ℕ) → AllByRecursion IsOurs (map (far_record nothing_before) ns)
far_ours [] = tt
far_ours (n ∷ ns) = (tt, far_ours ns)

places_ours : (ps : List Place) → AllByRecursion IsOurs (map (place_record true) ps)
places_ours [] = tt
places_ours (p ∷ ps) = (tt, places_ours ps)

pub ours : (in_bss : Bool) (p : Plan) → AllByRecursion IsOurs (variable_records true in_bss nothing_before p)
ours in_bss p = (
  tt,
  (
    tt,
    All-append IsOurs (near_records nothing_before p.near) _ (near_ours p.near)
        (All-append IsOurs (map (far_record nothing_before) p.far) _ (far_ours p.far) (places_ours p.places)),
  ),
)

pub no_subrecords : (r : Record) → IsOurs r → subrecords_in r ≡ []
no_subrecords (Lnames ns) h = refl
no_subrecords (Segdef s) h = refl
no_subrecords (Grpdef name ss) h = refl
no_subrecords (Pubdef local b ps) h = refl
no_subrecords (Theadr name) h = absurd h
no_subrecords (Coment kind class bytes) h = absurd h
no_subrecords (Modend main start) h = absurd h
no_subrecords (Extdef local ns) h = absurd h
no_subrecords (Linnum group segment lines) h = absurd h
no_subrecords (Fixupp ss) h = absurd h
no_subrecords (Ledata segment offset bytes) h = absurd h
no_subrecords (Lidata segment offset blocks) h = absurd h

no_externals : (r : Record) → IsOurs r → externals_in r ≡ []
no_externals (Lnames ns) h = refl
no_externals (Segdef s) h = refl
no_externals (Grpdef name ss) h = refl
no_externals (Pubdef local b ps) h = refl
no_externals (Theadr name) h = absurd h
no_externals (Coment kind class bytes) h = absurd h
no_externals (Modend main start) h = absurd h
no_externals (Extdef local ns) h = absurd h
no_externals (Linnum group segment lines) h = absurd h
no_externals (Fixupp ss) h = absurd h
no_externals (Ledata segment offset bytes) h = absurd h
no_externals (Lidata segment offset blocks) h = absurd h

no_stretches : (place : ℕ) (r : Record) → IsOurs r → data_in place r ≡ []
no_stretches place (Lnames ns) h = refl
no_stretches place (Segdef s) h = refl
no_stretches place (Grpdef name ss) h = refl
no_stretches place (Pubdef local b ps) h = refl
no_stretches place (Theadr name) h = absurd h
no_stretches place (Coment kind class bytes) h = absurd h
no_stretches place (Modend main start) h = absurd h
no_stretches place (Extdef local ns) h = absurd h
no_stretches place (Linnum group segment lines) h = absurd h
no_stretches place (Fixupp ss) h = absurd h
no_stretches place (Ledata segment offset bytes) h = absurd h
no_stretches place (Lidata segment offset blocks) h = absurd h

none-given : {A : Type 0} (f : Record → List A) → ((r : Record) → IsOurs r → f r ≡ []) → (rs : List Record)
    → AllByRecursion IsOurs rs → flat_map f rs ≡ []
none-given f none [] h = refl
none-given f none (r ∷ rs) h = ap₂ (λ x y. x ++ y) (none r h.0) (none-given f none rs h.1)

no-data : (at : ℕ) (rs : List Record) → AllByRecursion IsOurs rs → data_of (place_all at rs) ≡ []
no-data at [] h = refl
no-data at (r ∷ rs) h = ap₂ (λ x y. x ++ y) (no_stretches at r h.0) (no-data (at + length (record_bytes r)) rs h.1)

module _ (before : List Placed) (at : ℕ) (rs : List Record) (all : AllByRecursion IsOurs rs) where
  pub same-externals : externals (before ++ place_all at rs) ≡ externals before
  same-externals =
      flat-placed externals_in before at rs
      ∙ ap (λ l. externals before ++ l) (none-given externals_in no_externals rs all) ∙ append-nil (externals before)

  pub same-stretches : data_of (before ++ place_all at rs) ≡ data_of before
  same-stretches =
      flat_map-append (λ (placed : Placed). data_in placed.place placed.says) before (place_all at rs)
      ∙ ap (λ l. data_of before ++ l) (no-data at rs all) ∙ append-nil (data_of before)

-- ---- the names of variables, and their segments, groups and publics

abbrev four : (in_bss : Bool) → List (List ℕ)
four in_bss = dgroup ∷ near_name in_bss ∷ codes "BSS" ∷ codes "FAR_BSS" ∷ []

-- the names are these four
pub record Named (in_bss : Bool) (before : List Placed) : Type 0 where
  pub all : names before ≡ four in_bss

named-push : (in_bss : Bool) (before : List Placed) (x : Placed) → names_in x.says ≡ [] → Named in_bss before
    → Named in_bss (before ++ x ∷ [])
named-push in_bss before x none h = record {
  all = names-push before x ∙ ap (λ l. names before ++ l) none ∙ append-nil (names before) ∙ h.all;
}

length-is : (n : ℕ) → segment_len (length_of n) ≡ n
length-is n = (elim (eqb n 65536) as (λ b. eqb n 65536 ≡ b → segment_len (cond b len.Whole (len.Word n)) ≡ n) [
  | true ↦ λ e. sym (eqb-true n 65536 e)
  | false ↦ λ e. refl
]) refl

abbrev pub segments_by : List Placed → Placed → List Segment
segments_by front placed = segments_in (names front) placed.says

abbrev pub groups_by : List Placed → Placed → List Group
groups_by front placed = groups_in (names front) placed.says

near_segment-is : (in_bss : Bool) (before : List Placed) (n : ℕ) → Named in_bss before
    → segments_in (names before) (Segdef (near_definition nothing_before n)) ≡ near_segments in_bss (Some n)
near_segment-is in_bss before n h =
    ap (λ ns. segments_in ns (Segdef (near_definition nothing_before n))) h.all
    ∙ ap
    (λ x. record { name = near_name in_bss; class = codes "BSS"; length = x; standing = Relocatable 2 Public } ∷ [])
    (length-is n)

far_segment-is : (in_bss : Bool) (before : List Placed) (n : ℕ) → Named in_bss before
    → segments_in (names before) (far_record nothing_before n) ≡ far_segment n ∷ []
far_segment-is in_bss before n h =
    ap (λ ns. segments_in ns (far_record nothing_before n)) h.all
    ∙ ap (λ x. record {
      name = codes "FAR_BSS";
      class = codes "FAR_BSS";
      length = x;
      standing = Relocatable 16 Private;
    } ∷ []) (length-is n)

near_group-is : (in_bss : Bool) (before : List Placed) → Named in_bss before
    → groups_in (names before) (Grpdef 1 (1 ∷ [])) ≡ record { name = dgroup; members = 0 ∷ [] } ∷ []
near_group-is in_bss before h = ap (λ ns. groups_in ns (Grpdef 1 (1 ∷ []))) h.all

far-segments : (in_bss : Bool) (ns : List ℕ) (before : List Placed) (at : ℕ) → Named in_bss before
    → along before segments_by (place_all at (map (far_record nothing_before) ns)) ≡ map far_segment ns
far-segments in_bss [] before at h = refl
far-segments in_bss (n ∷ ns) before at h =
    ap₂ (λ x y. x ++ y) (far_segment-is in_bss before n h)
    (far-segments in_bss ns _ _ (named-push in_bss before _ refl h))

far-groups : (ns : List ℕ) (before : List Placed) (at : ℕ)
    → along before groups_by (place_all at (map (far_record nothing_before) ns)) ≡ []
far-groups [] before at = refl
far-groups (n ∷ ns) before at = far-groups ns _ _

places-segments : (ps : List Place) (before : List Placed) (at : ℕ)
    → along before segments_by (place_all at (map (place_record true) ps)) ≡ []
places-segments [] before at = refl
places-segments (p ∷ ps) before at = places-segments ps _ _

places-groups : (ps : List Place) (before : List Placed) (at : ℕ)
    → along before groups_by (place_all at (map (place_record true) ps)) ≡ []
places-groups [] before at = refl
places-groups (p ∷ ps) before at = places-groups ps _ _

pub place-append : (at : ℕ) (xs ys : List Record)
    → place_all at (xs ++ ys) ≡ place_all at xs ++ place_all (at + length (records_bytes xs)) ys
place-append at [] ys = ap (λ n. place_all n ys) (omega arith)
place-append at (x ∷ xs) ys =
    ap (λ l. record { place = at; body = canonical x; says = x } ∷ l)
    (place-append (at + length (record_bytes x)) xs ys
    ∙ ap (λ n. place_all (at + length (record_bytes x)) xs ++ place_all n ys)
    (omega (arith, length-append (record_bytes x) (records_bytes xs))))

-- the near segment and its group
near-segments : (in_bss : Bool) (o : Option ℕ) (before : List Placed) (at : ℕ) → Named in_bss before
    → along before segments_by (place_all at (near_records nothing_before o)) ≡ near_segments in_bss o
near-segments in_bss None before at h = refl
near-segments in_bss (Some n) before at h = ap (λ l. l ++ []) (near_segment-is in_bss before n h)

near-groups : (in_bss : Bool) (o : Option ℕ) (before : List Placed) (at : ℕ) → Named in_bss before
    → along before groups_by (place_all at (near_records nothing_before o)) ≡ near_groups o
near-groups in_bss None before at h = refl
near-groups in_bss (Some n) before at h =
    ap (λ l. l ++ []) (near_group-is in_bss _ (named-push in_bss before _ refl h))

near-named : (in_bss : Bool) (o : Option ℕ) (before : List Placed) (at : ℕ) → Named in_bss before
    → Named in_bss (before ++ place_all at (near_records nothing_before o))
near-named in_bss None before at h = subst (Named in_bss) (sym (append-nil before)) h
near-named in_bss (Some n) before at h =
    subst (Named in_bss) (append_assoc before (_ ∷ []) (_ ∷ []))
    (named-push in_bss _ _ refl (named-push in_bss before _ refl h))

-- all behind the names
module _ (in_bss : Bool) (p : Plan) (before : List Placed) (at : ℕ) (h : Named in_bss before) where
  abbrev near : List Record
  near = near_records nothing_before p.near

  abbrev far : List Record
  far = map (far_record nothing_before) p.far

  abbrev places : List Record
  places = map (place_record true) p.places

  abbrev two : ℕ
  two = at + length (records_bytes near)

  abbrev three : ℕ
  three = two + length (records_bytes far)

  abbrev all : List Placed
  all = place_all at (placed_records true nothing_before p)

  parts-of : all ≡ place_all at near ++ (place_all two far ++ place_all three places)
  parts-of =
      place-append at near (far ++ places) ∙ ap (λ l. place_all at near ++ l) (place-append two far places)

  in-parts : {A : Type 0} (f : List Placed → Placed → List A)
      → along before f all
      ≡ along before f (place_all at near)
      ++ (along (before ++ place_all at near) f (place_all two far)
      ++ along ((before ++ place_all at near) ++ place_all two far) f (place_all three places))
  in-parts f =
      ap (along before f) parts-of
      ∙ along_from_append f before (place_all at near) (place_all two far ++ place_all three places)
      ∙ ap (λ l. along before f (place_all at near) ++ l)
      (along_from_append f (before ++ place_all at near) (place_all two far) (place_all three places))

  pub all-segments : along before segments_by all ≡ near_segments in_bss p.near ++ map far_segment p.far
  all-segments =
      in-parts segments_by
      ∙ ap₂ (λ x y. x ++ y) (near-segments in_bss p.near before at h)
      (ap₂ (λ x y. x ++ y) (far-segments in_bss p.far _ two (near-named in_bss p.near before at h))
      (places-segments p.places _ three) ∙ append-nil (map far_segment p.far))

  pub all-groups : along before groups_by all ≡ near_groups p.near
  all-groups =
      in-parts groups_by
      ∙ ap₂ (λ x y. x ++ y) (near-groups in_bss p.near before at h)
      (ap₂ (λ x y. x ++ y) (far-groups p.far _ two) (places-groups p.places _ three))
      ∙ append-nil (near_groups p.near)

near-publics : (o : Option ℕ) → flat_map publics_in (near_records nothing_before o) ≡ []
near-publics None = refl
near-publics (Some n) = refl

far-publics : (ns : List ℕ) → flat_map publics_in (map (far_record nothing_before) ns) ≡ []
far-publics [] = refl
far-publics (n ∷ ns) = far-publics ns

places-publics : (ps : List Place) → flat_map publics_in (map (place_record true) ps) ≡ map local_public ps
places-publics [] = refl
places-publics (p ∷ ps) = ap (λ l. local_public p ∷ l) (places-publics ps)

pub all-publics : (in_bss : Bool) (p : Plan)
    → flat_map publics_in (variable_records true in_bss nothing_before p) ≡ map local_public p.places
all-publics in_bss p =
    flat_map-append publics_in (near_records nothing_before p.near) _
    ∙ ap₂ (λ x y. x ++ y) (near-publics p.near)
    (flat_map-append publics_in (map (far_record nothing_before) p.far) _
    ∙ ap₂ (λ x y. x ++ y) (far-publics p.far) (places-publics p.places))
