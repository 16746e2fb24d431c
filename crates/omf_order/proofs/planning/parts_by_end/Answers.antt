use Rattle.std.proofs.Common.{◌∙◌, ap, arith, filter}
use Rattle.std.proofs.lemmas.List.{take_all}
use Rattle.omf_order.specs.declared.parts.Part.{Part}
use Rattle.omf_order.specs.inside.Held.{is_by_end, part_view, parts_view}
use Rattle.omf_order.proofs.Lists.{filter_turn, filter_viewed}
use Rattle.omf_order.proofs.planning.parts_by_end.Goals as goal

pub loop-part-preserved : goal.loop-part-preserved
loop-part-preserved g c =
    filter_turn (λ (p : Part). is_by_end c.args.is_of_it (part_view p)) c.args.parts.now c.loop-part.part-index _ _
    c.loop-part.found.items _ c.loop-part-test.true c.is_by_end.ensures c.in_ok-push_passed.ensures
    c.loop-part.invariant

pub loop-part-init : goal.loop-part-init
loop-part-init g c = c.new-found.ensures.items

pub returns : goal.returns
returns g c =
    ap parts_view
    (c.loop-part.invariant
    ∙ ap (filter (λ (p : Part). is_by_end c.args.is_of_it (part_view p)))
    (take_all c.loop-part.part-index c.args.parts.now (omega arith)))
    ∙ filter_viewed part_view (is_by_end c.args.is_of_it) c.args.parts.now
