use Rattle.std.proofs.Common.{◌∙◌}
use Rattle.omf_order.proofs.cleared.lost_behind.Goals as goal

pub returns : goal.returns
returns g c =
    c.first_lost.ensures c.args.parts.now
    (c.in_ok-early.ensures ∙ c.deref.ensures.value ∙ c.in_ok-keys.ensures)
