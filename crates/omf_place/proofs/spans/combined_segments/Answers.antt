use Rattle.std.proofs.Common.{rules, ◌∙◌, map, filter, ap}
use Rattle.omf_place.specs.Placed.{leads}
use Rattle.omf_place.specs.inside.Sites.{sites_view}
use Rattle.omf_place.specs.inside.Spans.{addresses_in, IsLow}
use Rattle.omf_place.specs.Tables.{combined_segment}
use Rattle.omf_place.proofs.GreatestAt.{All-at}
use Rattle.omf_place.proofs.SpanTables.{spans_inside, combined-added, combined-kept, all-met}
use Rattle.omf_place.proofs.Walks.{met-within, no_site}
use Rattle.omf_place.proofs.spans.combined_segments.Goals as goal
use Rattle.omf_place.proofs.spans.combined_segments.Goals.{then-rank+in_ok-push, else-rank}

pub bounds-sites-rank : goal.bounds-sites-rank
bounds-sites-rank g c = met-within _ _ _ _ c.requires.order c.requires.numbered c.loop-rank-test.true

pub offset_bounds-sites-rank : goal.offset_bounds-sites-rank
offset_bounds-sites-rank g c =
    let w =
    met-within _ _ _ (record { class = 0; segment = 0; own = 0 }) c.requires.order c.requires.numbered
    c.loop-rank-test.true in search rules

pub bounds-spans-rank : goal.bounds-spans-rank
bounds-spans-rank g c =
    spans_inside c.args.sites.now c.args.ranks.now c.loop-rank.rank-index _ no_site c.args.spans.now
    (record { address = 0; start = 0; end = 0 }) c.requires.order c.requires.numbered c.loop-rank-test.true
    c.requires.spans

pub offset_bounds-spans-rank : goal.offset_bounds-spans-rank
offset_bounds-spans-rank g c = let w = bounds-spans-rank g c in search rules

pub combined_segment-requires : goal.combined_segment-requires
combined_segment-requires g c =
    All-at IsLow c.args.spans.now _ _ c.requires.low
    (spans_inside c.args.sites.now c.args.ranks.now c.loop-rank.rank-index _ no_site c.args.spans.now
    (record { address = 0; start = 0; end = 0 }) c.requires.order c.requires.numbered c.loop-rank-test.true
    c.requires.spans)

pub loop-rank-preserved : goal.loop-rank-preserved
loop-rank-preserved g c =
    elim c.if-rank.branch [
      | then-rank+in_ok-push w ↦ ap (λ v. v.items) w.all-is ∙ w.in_ok-push.ensures.items
          ∙ combined-added c.args.sites.now c.args.ranks.now c.loop-rank.rank-index _ _ c.args.spans.now _
          c.requires.order c.requires.numbered c.loop-rank-test.true c.requires.spans
          c.loop-rank.all.items _ w.if-rank.true w.combined_segment.ensures c.loop-rank.invariant
      | else-rank w ↦ ap (λ v. v.items) w.all-is
          ∙ combined-kept c.args.sites.now c.args.ranks.now c.loop-rank.rank-index
          (record { class = 0; segment = 0; own = 0 }) no_site c.args.spans.now
          (record { address = 0; start = 0; end = 0 }) c.requires.order c.requires.numbered c.loop-rank-test.true
          c.requires.spans
          c.loop-rank.all.items w.if-rank.false c.loop-rank.invariant
    ]

pub returns : goal.returns
returns g c =
    let ss = sites_view c.args.sites.now in
    c.loop-rank.invariant
    ∙ ap (λ os. map (combined_segment ss (addresses_in c.args.spans.now)) (filter (leads ss) os))
    (all-met ss c.args.ranks.now c.loop-rank.rank-index c.requires.order c.loop-rank-test.false)
