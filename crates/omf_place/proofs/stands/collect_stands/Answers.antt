use Rattle.std.proofs.Common.{◌∙◌}
use Rattle.omf_place.specs.inside.Sites.{sites_view}
use Rattle.omf_place.specs.inside.Spans.{addresses_in}
use Rattle.omf_place.specs.inside.Stands.{stand_of}
use Rattle.omf_place.proofs.Measuring.{map_site-more}
use Rattle.omf_place.proofs.StandTables.{stand_here, framed_here}
use Rattle.omf_place.proofs.Walks.{no_site}
use Rattle.omf_place.proofs.stands.collect_stands.Goals as goal

pub stand_in-requires-clause-framed : goal.stand_in-requires-clause-framed
stand_in-requires-clause-framed g c =
    framed_here c.args.sites.now c.args.spans.now c.requires.spans c.loop-i.i _ _ c.loop-i-test.true c.requires.framed

pub loop-i-preserved : goal.loop-i-preserved
loop-i-preserved g c =
    c.in_ok-push.ensures.items
    ∙ map_site-more (stand_of (sites_view c.args.sites.now) (addresses_in c.args.spans.now)) c.args.sites.now c.loop-i.i
    no_site c.loop-i.all.items _ c.loop-i-test.true c.loop-i.invariant
    (stand_here c.args.sites.now c.args.spans.now c.requires.spans c.loop-i.i no_site
    (record { address = 0; start = 0; end = 0 }) c.loop-i-test.true c.stand_in.result c.stand_in.ensures)
