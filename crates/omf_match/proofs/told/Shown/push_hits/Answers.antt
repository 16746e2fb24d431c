use Rattle.std.proofs.Common.{◌+◌, slice_index}
use Rattle.omf_match.specs.Told.{hit_line}
use Rattle.omf_match.proofs.Texts.{counted-more}
use Rattle.omf_match.proofs.told.Shown.push_hits.Goals as goal

pub loop-index-preserved : goal.loop-index-preserved
loop-index-preserved g c =
    counted-more
    (λ i. hit_line c.args.self.now.from.now c.args.self.now.image.now c.args.fixup.now (c.args.start + i)
    (slice_index c.args.places.now i))
    c.loop-index.index c.args.lines.now.items c.loop-index.lines.items c.push_hit.new.lines.items
    c.in_ok-push_hit.ensures c.loop-index.invariant
