use Rattle.std.proofs.Common.{refl}
use Rattle.link_map.proofs.Puts.{no_memory, not_put}
use Rattle.link_map.proofs.map.write_shown_map.Goals as goal

pub returns-in_err-orders : goal.returns-in_err-orders
returns-in_err-orders g c = no_memory g.K.Sink.written g.K.Sink.failures _ _ _ _ c.from_residual.ensures.1 refl

pub returns-in_err-details : goal.returns-in_err-details
returns-in_err-details g c =
    no_memory g.K.Sink.written g.K.Sink.failures _ _ _ _ c.from_residual-in_err-details.ensures.1 refl

pub returns-in_err-numbers : goal.returns-in_err-numbers
returns-in_err-numbers g c =
    no_memory g.K.Sink.written g.K.Sink.failures _ _ _ _ c.from_residual-in_err-numbers.ensures.1 refl

pub returns-in_err-put_lines : goal.returns-in_err-put_lines
returns-in_err-put_lines g c =
    not_put g.K.Sink.written g.K.Sink.failures _ _ _ _ c.from_residual-in_err-put_lines.ensures.1
    (rw (
      c.in_ok-orders.ensures.names,
      c.in_ok-orders.ensures.values,
      c.deref.ensures.value,
      c.deref-2.ensures.value,
      c.in_ok-details.ensures,
      c.in_ok-numbers.ensures,
    ) at c.in_err-put_lines.ensures)

pub returns : goal.returns
returns g c =
    rw (
      c.in_ok-orders.ensures.names,
      c.in_ok-orders.ensures.values,
      c.deref.ensures.value,
      c.deref-2.ensures.value,
      c.in_ok-details.ensures,
      c.in_ok-numbers.ensures,
    ) at c.in_ok-put_lines.ensures
