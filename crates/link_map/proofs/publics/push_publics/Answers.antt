use Rattle.omf_module.specs.Seen.{public_seen}
use Rattle.link_map.specs.Publics.{listed}
use Rattle.link_map.specs.inside.Listed.{all_seen}
use Rattle.link_map.proofs.Lines.{items_more}
use Rattle.link_map.proofs.publics.push_publics.Goals as goal

pub loop-index-preserved : goal.loop-index-preserved
loop-index-preserved g c =
    items_more (listed c.args.layout.now) c.args.«module».now.publics c.loop-index.index
    (public_seen c.public_symbol.result) (all_seen c.args.listed.now.items) (all_seen c.loop-index.listed.items)
    (all_seen c.push_public.new.listed.items) c.public_symbol.ensures c.loop-index.invariant c.in_ok-push_public.ensures
