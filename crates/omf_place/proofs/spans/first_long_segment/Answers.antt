use Rattle.std.proofs.Common.{rules, sym, ◌∙◌, ◌&&◌, find, ap, Bool}
use Rattle.omf_place.specs.inside.Steps.{is_long_segment}
use Rattle.omf_place.specs.Parts.{Site, placement_order}
use Rattle.omf_place.specs.Placed.{leads}
use Rattle.omf_place.specs.inside.Sites.{sites_view}
use Rattle.omf_place.specs.inside.Spans.{addresses_in}
use Rattle.omf_place.proofs.Finds.{find-here, find-more}
use Rattle.omf_place.proofs.SpanTables.{spans_inside, met_small, met_test, find-both, all-met}
use Rattle.omf_place.proofs.Walks.{met-within, met, no_site}
use Rattle.omf_place.proofs.spans.first_long_segment.Goals as goal

pub bounds-sites-rank : goal.bounds-sites-rank
bounds-sites-rank c = met-within _ _ _ _ c.requires.order c.requires.numbered c.loop-rank-test.true

pub offset_bounds-sites-rank : goal.offset_bounds-sites-rank
offset_bounds-sites-rank c =
    let w =
    met-within _ _ _ (record { class = 0; segment = 0; own = 0 }) c.requires.order c.requires.numbered
    c.loop-rank-test.true in search rules

pub bounds-spans-rank : goal.bounds-spans-rank
bounds-spans-rank c =
    spans_inside c.args.sites.now c.args.ranks.now c.loop-rank.rank-index _ no_site c.args.spans.now
    (record { address = 0; start = 0; end = 0 }) c.requires.order c.requires.numbered c.loop-rank-test.true
    c.requires.spans

pub offset_bounds-spans-rank : goal.offset_bounds-spans-rank
offset_bounds-spans-rank c = let w = bounds-spans-rank c in search rules

pub is_long_leader-requires : goal.is_long_leader-requires
is_long_leader-requires c =
    met_small c.args.sites.now c.args.ranks.now c.loop-rank.rank-index _ no_site c.args.spans.now _ c.requires.order
    c.requires.numbered c.loop-rank-test.true c.requires.spans c.requires.small

pub returns-then-is_long_leader : goal.returns-then-is_long_leader
returns-then-is_long_leader c =
    let ss = sites_view c.args.sites.now in
    let A = addresses_in c.args.spans.now in
    sym (sym (find-both (leads ss) (is_long_segment ss A) (placement_order ss))
    ∙ find-here (λ (a : Site). leads ss a && is_long_segment ss A a) (placement_order ss) c.loop-rank.rank-index _
    (met _ _ _ _ no_site c.requires.order c.requires.numbered c.loop-rank-test.true) c.loop-rank.invariant
    (sym
    (met_test c.args.sites.now c.args.ranks.now c.loop-rank.rank-index _ no_site c.args.spans.now _ c.requires.order
    c.requires.numbered c.loop-rank-test.true c.requires.spans _ c.is_long_leader.ensures) ∙ c.if-is_long_leader.true))

pub loop-rank-preserved : goal.loop-rank-preserved
loop-rank-preserved c =
    let ss = sites_view c.args.sites.now in
    let A = addresses_in c.args.spans.now in
    find-more (λ (a : Site). leads ss a && is_long_segment ss A a) (placement_order ss) c.loop-rank.rank-index _
    (met _ _ _ _ no_site c.requires.order c.requires.numbered c.loop-rank-test.true) c.loop-rank.invariant
    (sym
    (met_test c.args.sites.now c.args.ranks.now c.loop-rank.rank-index _ no_site c.args.spans.now _ c.requires.order
    c.requires.numbered c.loop-rank-test.true c.requires.spans _ c.is_long_leader.ensures) ∙ c.if-is_long_leader.false)

pub returns : goal.returns
returns c =
    let ss = sites_view c.args.sites.now in
    let p : Site → Bool = λ a. leads ss a && is_long_segment ss (addresses_in c.args.spans.now) a in
    sym (sym (find-both (leads ss) (is_long_segment ss (addresses_in c.args.spans.now)) (placement_order ss))
    ∙ sym
    (ap (λ os. find p os) (all-met ss c.args.ranks.now c.loop-rank.rank-index c.requires.order c.loop-rank-test.false))
    ∙ c.loop-rank.invariant)
