use Rattle.std.proofs.Common.{map, ap, ◌∙◌, arith}
use Rattle.std.proofs.lemmas.List.{take_all}
use Rattle.doslink_link.specs.Linking.{bytes_of}
use Rattle.doslink_passes.specs.Sources.{source_bytes}
use Rattle.doslink_passes.proofs.Lists.{map-step}
use Rattle.doslink_passes.proofs.linked.source_slices.Goals as goal

pub loop-one-init : goal.loop-one-init
loop-one-init g c = ap bytes_of c.new-slices.ensures.items

pub loop-one-preserved : goal.loop-one-preserved
loop-one-preserved g c =
    map-step (λ s. s.now) source_bytes c.args.sources.now c.loop-one.one-index c.one-item.result
    c.loop-one.slices.items _ c.bytes.result c.loop-one-test.true c.in_ok-push.ensures.items
    (c.bytes.ensures ∙ ap source_bytes c.one-item.is) c.loop-one.invariant

pub returns : goal.returns
returns g c =
    c.loop-one.invariant ∙ ap (map source_bytes) (take_all c.loop-one.one-index c.args.sources.now (omega arith))
