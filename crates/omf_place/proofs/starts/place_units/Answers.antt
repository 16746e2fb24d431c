use Rattle.std.proofs.Common.{◌<◌, ◌≤◌, length, get_or, arith, rules, subst, ap, sym, ◌∙◌}
use Rattle.std.proofs.lemmas.List.{length-map}
use Rattle.omf_place.specs.declared.starts.Measure.{Measure}
use Rattle.omf_place.specs.inside.Sites.{site, sites_view}
use Rattle.omf_place.specs.inside.Walk.{unit_measure}
use Rattle.omf_place.proofs.Walks.{met-within, met-position, met-leads, met-bounded, met, Follow-step, Keeps-step}
use Rattle.omf_place.proofs.Walks.{to_unit, map_own, no_site}
use Rattle.omf_place.proofs.starts.place_units.Goals as goal

pub bounds-sites-rank : goal.bounds-sites-rank
bounds-sites-rank c = met-within _ _ _ _ c.requires.order c.requires.numbered c.loop-rank-test.true

pub offset_bounds-sites-rank : goal.offset_bounds-sites-rank
offset_bounds-sites-rank c =
    let w =
    met-within _ _ _ (record { class = 0; segment = 0; own = 0 }) c.requires.order c.requires.numbered
    c.loop-rank-test.true in search rules

pub bounds-measures-rank : goal.bounds-measures-rank
bounds-measures-rank c =
    let w =
    met-within _ _ _ (record { class = 0; segment = 0; own = 0 }) c.requires.order c.requires.numbered
    c.loop-rank-test.true in
    let e =
    ap length c.requires.measures
    ∙ length-map (sites_view c.args.sites.now) (unit_measure (sites_view c.args.sites.now))
    ∙ length-map c.args.sites.now site in omega (arith, w, e)

pub offset_bounds-measures-rank : goal.offset_bounds-measures-rank
offset_bounds-measures-rank c =
    let w = bounds-measures-rank c in search rules

pub place_unit-end-requires-clause-within : goal.place_unit-end-requires-clause-within
place_unit-end-requires-clause-within c =
    met-position _ _ _ _ _ c.requires.order c.requires.numbered c.loop-rank-test.true _ (omega arith)

pub place_unit-end-requires-clause-positive : goal.place_unit-end-requires-clause-positive
place_unit-end-requires-clause-positive c =
    let m =
    map_own c.args.sites.now c.args.measures.now _ _ no_site c.requires.measures
    (met-within _ _ _ _ c.requires.order c.requires.numbered c.loop-rank-test.true) in
    subst (λ (z : Measure). 0 < z.alignment) (sym m)
    (met-bounded _ _ _ _ _ c.requires.order c.requires.numbered c.loop-rank-test.true c.requires.bounds).positive

pub place_unit-end-requires-clause-alignment : goal.place_unit-end-requires-clause-alignment
place_unit-end-requires-clause-alignment c =
    let m =
    map_own c.args.sites.now c.args.measures.now _ _ no_site c.requires.measures
    (met-within _ _ _ _ c.requires.order c.requires.numbered c.loop-rank-test.true) in
    subst (λ (z : Measure). z.alignment ≤ 256) (sym m)
    (met-bounded _ _ _ _ _ c.requires.order c.requires.numbered c.loop-rank-test.true c.requires.bounds).alignment

pub place_unit-end-requires-clause-length : goal.place_unit-end-requires-clause-length
place_unit-end-requires-clause-length c =
    let m =
    map_own c.args.sites.now c.args.measures.now _ _ no_site c.requires.measures
    (met-within _ _ _ _ c.requires.order c.requires.numbered c.loop-rank-test.true) in
    subst (λ (z : Measure). z.length ≤ 65536) (sym m)
    (met-bounded _ _ _ _ _ c.requires.order c.requires.numbered c.loop-rank-test.true c.requires.bounds).length

pub loop-rank-preserved : goal.loop-rank-preserved
loop-rank-preserved c =
    let u =
    site
    (get_or c.args.sites.now
    (get_or c.args.ranks.now c.loop-rank.rank-index (record { class = 0; segment = 0; own = 0 })).own no_site) in
    let step =
    to_unit (sites_view c.args.sites.now) c.loop-rank.end c.loop-rank.addresses c.place_unit-end.new.addresses
    c.place_unit-end.result u _ _ (met-leads _ _ _ _ _ c.requires.order c.requires.numbered c.loop-rank-test.true)
    (map_own c.args.sites.now c.args.measures.now _ _ _ c.requires.measures
    (met-within _ _ _ _ c.requires.order c.requires.numbered c.loop-rank-test.true)) c.place_unit-end.ensures in
    record {
      follow = Follow-step _ _ _ _ _ _ _ c.requires.numbered
          (met-position _ _ _ _ _ c.requires.order c.requires.numbered c.loop-rank-test.true _ (omega arith))
          (met _ _ _ _ _ c.requires.order c.requires.numbered c.loop-rank-test.true) c.loop-rank.invariant.follow step;
      small = let m = c.place_unit-end.ensures.small in omega arith;
      kept =
          Keeps-step _ _ _ _ _ _ _ _ (met _ _ _ _ _ c.requires.order c.requires.numbered c.loop-rank-test.true) step
          c.loop-rank.invariant.kept;
    }
