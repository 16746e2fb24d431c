use Rattle.std.proofs.Common.{map, sym, ap, ◌∙◌, arith}
use Rattle.std.proofs.lemmas.Option.{slice_get_within, get_or_from_slice_get}
use Rattle.omf_module.specs.Seen.{segment_seen}
use Rattle.omf_module.specs.Grouped.{is_of_class, greatest_index}
use Rattle.omf_module.proofs.Lists.{map_to}
use Rattle.omf_module.proofs.Joining.{take_least}
use Rattle.omf_module.proofs.grouping.of_class.Goals as goal

pub loop-index-preserved : goal.loop-index-preserved
loop-index-preserved g c =
    let xs = c.args.store.now.segments in
    let i = c.loop-index.index in
    let x = segment_seen c.segment.result in
    let more =
    map_to (is_of_class c.args.class.now) xs i x (slice_get_within xs i x c.segment.ensures)
    (sym (get_or_from_slice_get xs i x x c.segment.ensures)) in
    rw (c.in_ok-push.ensures.items, c.loop-index.invariant, c.is_of_class.ensures) (sym more)

pub returns : goal.returns
returns g c =
    c.loop-index.invariant
    ∙ ap (map (is_of_class c.args.class.now))
    (take_least greatest_index c.loop-index.index c.args.store.now.segments (omega arith))
