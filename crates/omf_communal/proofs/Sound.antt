-- The bytes of a module of variables are those of a whole module that no check refuses.
use Rattle.std.proofs.Common.{◌≡◌, ℕ, ◌+◌, ◌<◌, ◌≤◌, Bool, false, ◌||◌, eqb, List, [], ◌∷◌, ◌++◌, length, map}
use Rattle.std.proofs.Common.{Option, Some, None, IfSome, refl, ap, sym, ◌∙◌, subst, arith, add-one, append_assoc}
use Rattle.std.specs.Prelude.{codes}
use Rattle.std.specs.List.{AllByRecursion}
use Rattle.std.proofs.lemmas.Bool.{ne_eqb}
use Rattle.omf_frame.specs.Frame.{place_limit}
use Rattle.omf_record.specs.Record.{Record, Theadr, Modend, Segdef, Grpdef}
use Rattle.omf_record.specs.Canonical.{FitsFrame, canonical}
use Rattle.std.specs.Option.{option_or}
use Rattle.omf_record.specs.Records.{AreToEnd, Placed, is_end}
use Rattle.omf_module.specs.declared.fault.CheckFault.TheVariants.{GroupIndex, NameIndex, SegmentIndex}
use Rattle.omf_module.specs.Before.{entry, first}
use Rattle.omf_module.specs.Bytes.{ModuleBytes}
use Rattle.omf_module.specs.Faults.{component_fault, fault, is_absolute, is_beyond}
use Rattle.omf_module.specs.inside.Checking.{when}
use Rattle.omf_module.specs.Tables.{names}
use Rattle.omf_module.specs.inside.Said.{groups, segments}
use Rattle.omf_module.specs.inside.Entries.{segment_of}
use Rattle.omf_write.specs.Records.{record_bytes}
use Rattle.omf_write.proofs.Bodies.{end_fits}
use Rattle.omf_write.proofs.Clean.{All-append, Clean, are_bodies, are_frames, both_false, clean_by, clean_end}
use Rattle.omf_write.proofs.Clean.{clean_first, ended, nones, not_below, place_all, segments-push}
use Rattle.omf_communal.specs.declared.places.Before.{Before}
use Rattle.omf_communal.specs.Plan.{Place, Plan, nothing_before}
use Rattle.omf_communal.specs.Records.{far_record, module_bytes, far_names, near_definition, near_names}
use Rattle.omf_communal.specs.Records.{near_records, place_record, placed_records, records}
use Rattle.omf_communal.specs.Records.{variable_records}
use Rattle.omf_communal.specs.Whole.{AreWhole}
use Rattle.omf_communal.proofs.Bodies.{far_fits, far_names_fit, group_fits, near_fits, near_names_fit}
use Rattle.omf_communal.proofs.Bodies.{own_header_fits, public_fits}
use Rattle.omf_communal.proofs.Ready.{Ready, component_last, ready-as, ready-more}
use Rattle.omf_communal.proofs.Fitting.{Fits, FitsPlace, count_of, groups_with, plan_fits, segments_with}

-- ---- none of them ends a module

open_near : (b : Before) (o : Option ℕ) → AllByRecursion (λ r. is_end r ≡ false) (near_records b o)
open_near b None = tt
open_near b (Some n) = (refl, (refl, tt))

open_far : (b : Before) (ns : List ℕ) → AllByRecursion (λ r. is_end r ≡ false) (map (far_record b) ns)
open_far b [] = tt
open_far b (n ∷ ns) = (refl, open_far b ns)

open_places : (local : Bool) (ps : List Place) → AllByRecursion (λ r. is_end r ≡ false) (map (place_record local) ps)
open_places local [] = tt
open_places local (p ∷ ps) = (refl, open_places local ps)

pub open_all : (local in_bss : Bool) (b : Before) (p : Plan)
    → AllByRecursion (λ r. is_end r ≡ false) (variable_records local in_bss b p)
open_all local in_bss b p =
    let P = λ (r : Record). is_end r ≡ false in (
      refl,
      (
        refl,
        All-append P (near_records b p.near) _ (open_near b p.near)
            (All-append P (map (far_record b) p.far) _ (open_far b p.far) (open_places local p.places)),
      ),
    )

to_end : (local in_bss : Bool) (p : Plan) → AreToEnd (place_all 0 (records local in_bss p))
to_end local in_bss p =
    ended (Theadr (codes "communal") ∷ variable_records local in_bss nothing_before p)
    (refl, open_all local in_bss nothing_before p) (Modend false None ∷ []) (λ at. refl) 0

-- ---- each fits its frame

fit_near : (b : Before) (o : Option ℕ) → b.names + 4 ≤ 32767 → b.segments + count_of o ≤ 32767
    → IfSome o (λ n. n ≤ 65536) → AllByRecursion FitsFrame (near_records b o)
fit_near b None room more h = tt
fit_near b (Some n) room more h = (
  near_fits b n room h,
  (group_fits (b.names + 1) (b.segments + 1) (omega (arith, room)) (omega (arith, more)), tt),
)

fit_far : (b : Before) (ns : List ℕ) → b.names + 4 ≤ 32767 → AllByRecursion (λ n. n ≤ 65536) ns
    → AllByRecursion FitsFrame (map (far_record b) ns)
fit_far b [] room h = tt
fit_far b (n ∷ ns) room h = (far_fits b n room h.0, fit_far b ns room h.1)

fit_places : (local : Bool) (g s : ℕ) (ps : List Place) → g ≤ 32767 → s ≤ 32767 → AllByRecursion (FitsPlace g s) ps
    → AllByRecursion FitsFrame (map (place_record local) ps)
fit_places local g s [] h k fits = tt
fit_places local g s (p ∷ ps) h k fits = (
  public_fits local p.group p.segment p.offset p.name (omega (arith, fits.0.group, h)) fits.0.positive
      (omega (arith, fits.0.segment, k)) fits.0.offset fits.0.name,
  fit_places local g s ps h k fits.1,
)

pub fit_all : (local in_bss : Bool) (b : Before) (p : Plan) → Fits b p
    → AllByRecursion FitsFrame (variable_records local in_bss b p)
fit_all local in_bss b p f = (
  near_names_fit in_bss,
  (
    far_names_fit,
    All-append FitsFrame (near_records b p.near) _
        (fit_near b p.near f.names (omega (arith, f.segments)) f.near)
        (All-append FitsFrame (map (far_record b) p.far) _ (fit_far b p.far f.names f.far)
        (fit_places local (groups_with b p) (segments_with b p) p.places f.groups f.segments f.places)),
  ),
)

-- ---- no check refuses them

relocatable_near : (b : Before) (ns : List (List ℕ)) (n : ℕ)
    → is_absolute (segment_of ns (near_definition b n)).standing ≡ false
relocatable_near b ns n = refl

near_ok : (b : Before) (s g n : ℕ) (before : List Placed) → Ready (b.names + 4) s g before
    → fault before (Segdef (near_definition b n)) ≡ None
near_ok b s g n before r =
    clean_by before (Segdef (near_definition b n)) r.is_begun
    (ap (λ t. first (when t NameIndex ∷ []))
    (both_false _ _ (not_below (length (names before)) (b.names + 2) (omega (arith, r.name_count)))
    (not_below (length (names before)) (b.names + 3) (omega (arith, r.name_count)))))

far_ok : (b : Before) (s g n : ℕ) (before : List Placed) → Ready (b.names + 4) s g before
    → fault before (far_record b n) ≡ None
far_ok b s g n before r =
    clean_by before (far_record b n) r.is_begun
    (ap (λ t. first (when t NameIndex ∷ []))
    (both_false _ _ (not_below (length (names before)) (b.names + 4) (omega (arith, r.name_count)))
    (not_below (length (names before)) (b.names + 4) (omega (arith, r.name_count)))))

not_none : (n : ℕ) → 0 < n → eqb n 0 ≡ false
not_none n h = ne_eqb n 0 (λ e. omega (arith, h, e))

-- the group of the near segment, right behind it
group_ok : (b : Before) (s g n at : ℕ) (before : List Placed) → Ready (b.names + 4) b.segments g before →
    Ready (b.names + 4) s g
    (before
    ++ record { place = at; body = canonical (Segdef (near_definition b n)); says = Segdef (near_definition b n) }
    ∷ []) →
    fault
    (before
    ++ record { place = at; body = canonical (Segdef (near_definition b n)); says = Segdef (near_definition b n) }
    ∷ [])
    (Grpdef (b.names + 1) ((b.segments + 1) ∷ [])) ≡ None
group_ok b s g n at before r r2 =
    let defined : Placed =
    record { place = at; body = canonical (Segdef (near_definition b n)); says = Segdef (near_definition b n) } in
    let all = before ++ defined ∷ [] in
    clean_by all (Grpdef (b.names + 1) ((b.segments + 1) ∷ [])) r2.is_begun
    (nones
    (when (eqb (b.names + 1) 0 || is_beyond (names all) (b.names + 1)) NameIndex
    ∷ component_fault (entry (segments all) (b.segments + 1)) ∷ []) (
      ap (λ t. when t NameIndex)
          (both_false _ _ (not_none (b.names + 1) (omega arith))
          (not_below (length (names all)) (b.names + 1) (omega (arith, r2.name_count)))),
      (
        ap (λ ss. component_fault (entry ss (b.segments + 1))) (segments-push before defined)
            ∙ ap
            (λ i. component_fault (entry (segments before ++ segment_of (names before) (near_definition b n) ∷ []) i))
            (add-one b.segments)
            ∙ component_last (segments before) (segment_of (names before) (near_definition b n)) b.segments
            r.segment_count
            (relocatable_near b (names before) n),
        tt,
      ),
    ))

place_ok : (local : Bool) (n s g : ℕ) (p : Place) (before : List Placed) → Ready n s g before → FitsPlace g s p
    → fault before (place_record local p) ≡ None
place_ok local n s g p before r f =
    clean_by before (place_record local p) r.is_begun
    (ap (λ t. first (option_or (when t SegmentIndex) (when (is_beyond (groups before) p.group) GroupIndex) ∷ []))
    (both_false _ _ (not_none p.segment f.positive)
    (not_below (length (segments before)) p.segment (omega (arith, r.segment_count, f.segment))))
    ∙ ap (λ t. first (when t GroupIndex ∷ []))
    (not_below (length (groups before)) p.group (omega (arith, r.group_count, f.group))))

-- what follows records with so many names, segments and groups is clean
abbrev pub Follows : (n s g : ℕ) → List Record → Type 0
Follows n s g rest = (before : List Placed) (at : ℕ) → Ready n s g before → Clean before (place_all at rest)

clean_places : (local : Bool) (n s g : ℕ) (ps : List Place) (rest : List Record) → AllByRecursion (FitsPlace g s) ps
    → Follows n s g rest → Follows n s g (map (place_record local) ps ++ rest)
clean_places local n s g [] rest f k before at r = k before at r
clean_places local n s g (p ∷ ps) rest f k before at r = (
  place_ok local n s g p before r f.0,
  clean_places local n s g ps rest f.1 k _ _
      (ready-as (n + 0) (s + 0) (g + 0) n s g _ (omega arith) (omega arith) (omega arith)
      (ready-more n s g before
      (record { place = at; body = canonical (place_record local p); says = place_record local p }) r)),
)

clean_far : (b : Before) (s g t : ℕ) (ns : List ℕ) (rest : List Record) → t ≡ s + length ns
    → Follows (b.names + 4) t g rest → Follows (b.names + 4) s g (map (far_record b) ns ++ rest)
clean_far b s g t [] rest e k before at r =
    k before at (ready-as (b.names + 4) s g (b.names + 4) t g before refl (omega (arith, e)) refl r)
clean_far b s g t (n ∷ ns) rest e k before at r = (
  far_ok b s g n before r,
  clean_far b (s + 1) g t ns rest (omega (arith, e)) k _ _
      (ready-as (b.names + 4 + 0) (s + 1) (g + 0) (b.names + 4) (s + 1) g _ (omega arith) refl (omega arith)
      (ready-more (b.names + 4) s g before
      (record { place = at; body = canonical (far_record b n); says = far_record b n }) r)),
)

clean_near : (b : Before) (o : Option ℕ) (rest : List Record)
    → Follows (b.names + 4) (b.segments + count_of o) (b.groups + count_of o) rest
    → Follows (b.names + 4) b.segments b.groups (near_records b o ++ rest)
clean_near b None rest k before at r =
    k before at
    (ready-as (b.names + 4) b.segments b.groups (b.names + 4) (b.segments + 0) (b.groups + 0) before refl (omega arith)
    (omega arith) r)
clean_near b (Some n) rest k before at r =
    let s = Segdef (near_definition b n) in
    let d = Grpdef (b.names + 1) ((b.segments + 1) ∷ []) in
    let defined : Placed = record { place = at; body = canonical s; says = s } in
    let next = at + length (record_bytes s) in
    let r2 : Ready (b.names + 4) (b.segments + 1) b.groups (before ++ defined ∷ []) =
    ready-as (b.names + 4 + 0) (b.segments + 1) (b.groups + 0) (b.names + 4) (b.segments + 1) b.groups _ (omega arith)
    refl (omega arith) (ready-more (b.names + 4) b.segments b.groups before defined r) in
    let grouped : Placed = record { place = next; body = canonical d; says = d } in
    let r3 : Ready (b.names + 4) (b.segments + 1) (b.groups + 1) ((before ++ defined ∷ []) ++ grouped ∷ []) =
    ready-as (b.names + 4 + 0) (b.segments + 1 + 0) (b.groups + 1) (b.names + 4) (b.segments + 1) (b.groups + 1) _
    (omega arith) (omega arith) refl
    (ready-more (b.names + 4) (b.segments + 1) b.groups (before ++ defined ∷ []) grouped r2) in
    (near_ok b b.segments b.groups n before r, (group_ok b (b.segments + 1) b.groups n at before r r2, k _ _ r3))

-- the names, and all behind them
pub clean_variables : (local in_bss : Bool) (b : Before) (p : Plan) (rest : List Record) → Fits b p
    → Follows (b.names + 4) (segments_with b p) (groups_with b p) rest
    → Follows b.names b.segments b.groups (variable_records local in_bss b p ++ rest)
clean_variables local in_bss b p rest f k before at r =
    let near = near_records b p.near in
    let far = map (far_record b) p.far in
    let places = map (place_record local) p.places in
    let all = near ++ (far ++ (places ++ rest)) in
    let same : placed_records local b p ++ rest ≡ all =
    append_assoc near (far ++ places) rest ∙ ap (λ rs. near ++ rs) (append_assoc far places rest) in
    let one : Placed = record { place = at; body = canonical (near_names in_bss); says = near_names in_bss } in
    let at2 = at + length (record_bytes (near_names in_bss)) in
    let two : Placed = record { place = at2; body = canonical far_names; says = far_names } in
    let r2 = ready-more b.names b.segments b.groups before one r in
    let r3 : Ready (b.names + 4) b.segments b.groups ((before ++ one ∷ []) ++ two ∷ []) =
    ready-as (b.names + 2 + 2) (b.segments + 0 + 0) (b.groups + 0 + 0) (b.names + 4) b.segments b.groups _ (omega arith)
    (omega arith) (omega arith)
    (ready-more (b.names + 2) (b.segments + 0) (b.groups + 0) (before ++ one ∷ []) two r2) in
    let g = groups_with b p in (
      clean_by before (near_names in_bss) r.is_begun refl,
      (
        clean_by (before ++ one ∷ []) far_names r2.is_begun refl,
        subst (λ rs. Clean ((before ++ one ∷ []) ++ two ∷ []) (place_all (at2 + length (record_bytes far_names)) rs))
            (sym same)
            (clean_near b p.near (far ++ (places ++ rest))
            (clean_far b (b.segments + count_of p.near) g (segments_with b p) p.far (places ++ rest) refl
            (clean_places local (b.names + 4) (segments_with b p) g p.places rest f.places k)) _ _ r3),
      ),
    )

clean_all : (local in_bss : Bool) (p : Plan) → Fits nothing_before p → Clean [] (place_all 0 (records local in_bss p))
clean_all local in_bss p f =
    let header : Placed =
    record { place = 0; body = canonical (Theadr (codes "communal")); says = Theadr (codes "communal") } in (
      refl,
      clean_variables local in_bss nothing_before p (Modend false None ∷ []) f
          (λ before at r. clean_end before at r.is_begun) (header ∷ []) _
          (record { is_begun = refl; name_count = refl; segment_count = refl; group_count = refl }),
    )

-- ---- the whole

pub module_sound : (local in_bss : Bool) (p : Plan) → Fits nothing_before p
    → length (module_bytes local in_bss p) < place_limit
    → ModuleBytes (place_all 0 (records local in_bss p)) (module_bytes local in_bss p)
module_sound local in_bss p f short =
    let all = records local in_bss p in
    let fits : AllByRecursion FitsFrame all = (
      own_header_fits,
      All-append FitsFrame (variable_records local in_bss nothing_before p) (Modend false None ∷ [])
          (fit_all local in_bss nothing_before p f) (end_fits, tt),
    ) in
    record {
      records = (are_frames 0 all fits (omega (arith, short)), are_bodies 0 all fits);
      ended = to_end local in_bss p;
      sound = clean_first [] (place_all 0 all) (clean_all local in_bss p f);
    }

pub whole : (local : Bool) → AreWhole local
whole local in_bss vs p named is short =
    (place_all 0 (records local in_bss p), module_sound local in_bss p (plan_fits nothing_before vs p named is) short)
