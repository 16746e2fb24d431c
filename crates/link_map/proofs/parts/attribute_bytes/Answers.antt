use Rattle.std.proofs.Common.{[], ◌∙◌, map, ap, arith}
use Rattle.std.proofs.lemmas.List.{take_all}
use Rattle.std.specs.List.{flat_map}
use Rattle.omf_frame.specs.Lending.{plain_frame}
use Rattle.omf_library.proofs.Gathering.{gather-turn}
use Rattle.link_map.specs.Detailed.{attribute_byte}
use Rattle.link_map.proofs.parts.attribute_bytes.Goals as goal

pub loop-frame-preserved : goal.loop-frame-preserved
loop-frame-preserved g c =
    gather-turn plain_frame attribute_byte _ c.loop-frame.frame-index c.frame-item.result []
    c.loop-frame.attributes.items _ c.loop-frame-test.true c.frame-item.is c.loop-frame.invariant
    c.in_ok-push_attributes.ensures

pub returns : goal.returns
returns g c =
    c.loop-frame.invariant
    ∙ ap (λ fs. flat_map attribute_byte (map plain_frame fs)) (take_all c.loop-frame.frame-index _ (omega arith))
