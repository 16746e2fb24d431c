use Rattle.std.proofs.Common.{ap, map, ◌∙◌}
use Rattle.omf_frame.specs.Lending.{plain_frame}
use Rattle.omf_library.specs.Wanting.{wanting_place}
use Rattle.doslink_telling.proofs.wanting.Wanter.new.Goals as goal

pub invariant_of-result : goal.invariant_of-result
invariant_of-result g c = record {
  first = λ q.
      c.in_ok-places.ensures.first q
      ∙ ap (wanting_place q.now) (ap (map plain_frame) c.deref.ensures.value ∙ c.in_ok-frames.ensures);
}
