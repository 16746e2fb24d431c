-- The module of local variables says these, and nothing else.
use Rattle.std.proofs.Common.{◌≡◌, ℕ, ◌+◌, Bool, true, false, List, [], ◌∷◌, ◌++◌, length, map, None}
use Rattle.std.proofs.Common.{refl, ap, ap₂, sym, subst, ◌∙◌}
use Rattle.std.specs.Prelude.{codes}
use Rattle.std.specs.List.{AllByRecursion, enumerate_from}
use Rattle.std.specs.Option.{option_to_list}
use Rattle.std.proofs.lemmas.List.{append-nil}
use Rattle.omf_record.specs.Record.{Record, Theadr, Coment, Modend, Extdef, Pubdef, Linnum, Lnames, Segdef, Grpdef}
use Rattle.omf_record.specs.Record.{Fixupp, Ledata, Lidata}
use Rattle.omf_record.specs.Canonical.{canonical}
use Rattle.omf_record.specs.Records.{Placed, is_end}
use Rattle.omf_record.specs.declared.fixups.Subrecord.{Subrecord}
use Rattle.omf_module.specs.declared.Start.{Start}
use Rattle.omf_module.specs.declared.ResolvedFixup.{ResolvedFixup}
use Rattle.omf_module.specs.Before.{along, last}
use Rattle.omf_module.specs.Tables.{data_in, data_of, data_record, externals_in, fixup_in, fixups, fixups_in, module_of}
use Rattle.omf_module.specs.Tables.{publics_in, start_in, subrecords}
use Rattle.omf_module.specs.inside.Said.{externals, groups, publics, segments, start}
use Rattle.omf_module.specs.inside.Said.{subrecords_in}
use Rattle.omf_module.proofs.Lists.{along_from_append, along_push, flat_map_push}
use Rattle.omf_write.specs.Records.{record_bytes, records_bytes}
use Rattle.omf_write.proofs.Clean.{groups-push, place_all, segments-push}
use Rattle.omf_communal.specs.LocalModule.{AreLocalModules, IsOfVariables, far_segment, local_public, near_groups}
use Rattle.omf_communal.specs.LocalModule.{near_segments}
use Rattle.omf_communal.specs.Plan.{Plan, nothing_before}
use Rattle.omf_communal.specs.Records.{far_names, near_names, records, variable_records}
use Rattle.omf_communal.proofs.Fitting.{plan_fits}
use Rattle.omf_communal.proofs.Giving.{IsOurs, Named, all-groups, all-publics, all-segments, flat-placed, groups_by}
use Rattle.omf_communal.proofs.Giving.{no_subrecords, ours, place-append, same-externals, same-stretches, segments_by}
use Rattle.omf_communal.proofs.Sound.{module_sound, open_all}

-- ---- fix-ups: none

abbrev fixups_by : List Placed → Placed → List (ℕ × ResolvedFixup)
fixups_by front placed = map (λ x. (length (data_of front), x)) (fixups_in (subrecords front) placed)

no-fixups : (front : List Placed) (x : Placed) → subrecords_in x.says ≡ [] → fixups_by front x ≡ []
no-fixups front x h =
    ap (λ ss. map (λ y. (length (data_of front), y))
    (along [] (λ earlier subrecord. option_to_list (fixup_in x.place (subrecords front ++ earlier) subrecord))
    (ss ++ []))) h

our-fixups : (before : List Placed) (at : ℕ) (rs : List Record) → AllByRecursion IsOurs rs
    → along before fixups_by (place_all at rs) ≡ []
our-fixups before at [] h = refl
our-fixups before at (r ∷ rs) h =
    let x : Placed = record { place = at; body = canonical r; says = r } in
    ap₂ (λ y z. y ++ z) (no-fixups before x (no_subrecords r h.0))
    (our-fixups (before ++ x ∷ []) (at + length (record_bytes r)) rs h.1)

-- ---- starts: none

abbrev start_by : List Placed → Placed → List Start
start_by front p = option_to_list (start_in (subrecords front) p.place p.says)

no-start : (before : List Subrecord) (place : ℕ) (r : Record) → is_end r ≡ false → start_in before place r ≡ None
no-start before place (Modend main s) h = absurd (cc)
no-start before place (Theadr name) h = refl
no-start before place (Coment kind class bytes) h = refl
no-start before place (Extdef local ns) h = refl
no-start before place (Pubdef local b ps) h = refl
no-start before place (Linnum group segment lines) h = refl
no-start before place (Lnames ns) h = refl
no-start before place (Segdef s) h = refl
no-start before place (Grpdef name ss) h = refl
no-start before place (Fixupp ss) h = refl
no-start before place (Ledata segment offset bytes) h = refl
no-start before place (Lidata segment offset blocks) h = refl

no-starts : (before : List Placed) (at : ℕ) (rs : List Record) → AllByRecursion (λ r. is_end r ≡ false) rs
    → along before start_by (place_all at rs) ≡ []
no-starts before at [] h = refl
no-starts before at (r ∷ rs) h =
    ap₂ (λ x y. x ++ y) (ap option_to_list (no-start (subrecords before) at r h.0))
    (no-starts (before ++ _ ∷ []) (at + length (record_bytes r)) rs h.1)

-- ---- the module

abbrev header : Placed
header = record { place = 0; body = canonical (Theadr (codes "communal")); says = Theadr (codes "communal") }

abbrev at : ℕ
at = length (record_bytes (Theadr (codes "communal")))

-- lists with nothing behind
nothing-more : {A : Type 0} (xs ys : List A) → ys ≡ [] → xs ++ ys ≡ xs
nothing-more xs ys h = ap (λ l. xs ++ l) h ∙ append-nil xs

module _ (in_bss : Bool) (p : Plan) where
  abbrev added : List Record
  added = variable_records true in_bss nothing_before p

  abbrev more : List Placed
  more = place_all at added

  abbrev front : List Placed
  front = header ∷ [] ++ more

  abbrev end : Placed
  end = record {
    place = at + length (records_bytes added);
    body = canonical (Modend false None);
    says = Modend false None;
  }

  placed : place_all 0 (records true in_bss p) ≡ front ++ end ∷ []
  unfolding canonical
  placed = ap (λ l. header ∷ l) (place-append at added (Modend false None ∷ []))

  mine : AllByRecursion IsOurs added
  mine = ours in_bss p

  abbrev at2 : ℕ
  at2 = at + length (record_bytes (near_names in_bss))

  abbrev behind-names : List Placed
  behind-names =
      header ∷ record { place = at; body = canonical (near_names in_bss); says = near_names in_bss }
      ∷ record { place = at2; body = canonical far_names; says = far_names } ∷ []

  named : Named in_bss behind-names
  named = record { all = refl }

  its-segments : segments front ≡ near_segments in_bss p.near ++ map far_segment p.far
  its-segments =
      along_from_append segments_by [] (header ∷ []) more
      ∙ all-segments in_bss p behind-names (at2 + length (record_bytes far_names)) named

  its-groups : groups front ≡ near_groups p.near
  its-groups =
      along_from_append groups_by [] (header ∷ []) more
      ∙ all-groups in_bss p behind-names (at2 + length (record_bytes far_names)) named

  its-publics : publics front ≡ map local_public p.places
  its-publics = flat-placed publics_in (header ∷ []) at added ∙ all-publics in_bss p

  its-fixups : fixups (front ++ end ∷ []) ≡ []
  its-fixups =
      along_push fixups_by front end ∙ nothing-more (fixups front) _ (no-fixups front end refl)
      ∙ along_from_append fixups_by [] (header ∷ []) more ∙ our-fixups (header ∷ []) at added mine

  its-data : data_of (front ++ end ∷ []) ≡ []
  its-data =
      flat_map_push (λ (x : Placed). data_in x.place x.says) front end ∙ append-nil (data_of front)
      ∙ same-stretches (header ∷ []) at added mine

  its-start : start (front ++ end ∷ []) ≡ None
  its-start =
      ap last
      (along_push start_by front end ∙ append-nil (along [] start_by front)
      ∙ along_from_append start_by [] (header ∷ []) more
      ∙ no-starts (header ∷ []) at added (open_all true in_bss nothing_before p))

  said : IsOfVariables in_bss p (module_of (place_all 0 (records true in_bss p)))
  said = subst (λ rs. IsOfVariables in_bss p (module_of rs)) (sym placed) (record {
    segments = segments-push front end ∙ append-nil (segments front) ∙ its-segments;
    groups = groups-push front end ∙ append-nil (groups front) ∙ its-groups;
    externals =
        flat_map_push (λ (x : Placed). externals_in x.says) front end ∙ append-nil (externals front)
        ∙ same-externals (header ∷ []) at added mine;
    publics =
        flat_map_push (λ (x : Placed). publics_in x.says) front end ∙ append-nil (publics front) ∙ its-publics;
    data_records = ap₂ (λ fs ss. map (data_record fs) (enumerate_from 1 ss)) its-fixups its-data;
    start = its-start;
  })

pub are-said : AreLocalModules
are-said in_bss vs p named is short = (
  place_all 0 (records true in_bss p),
  module_sound true in_bss p (plan_fits nothing_before vs p named is) short,
  said in_bss p,
)
