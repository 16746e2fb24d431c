use Rattle.omf_order.proofs.firsts.meet.Goals as goal

pub returns-clause-added : goal.returns-clause-added
returns-clause-added g c = λ q h. c.in_ok-insert.ensures.updates.0 q
