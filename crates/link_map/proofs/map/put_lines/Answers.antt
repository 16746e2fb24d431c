use Rattle.std.proofs.Common.{refl}
use Rattle.omf_frame.proofs.Told.{Wrote-cut, Wrote-then}
use Rattle.link_map.proofs.map.put_lines.Goals as goal

pub returns-in_err-put_segments : goal.returns-in_err-put_segments
returns-in_err-put_segments g c =
    Wrote-cut _ _ _ _ _ _ _ _ _ c.in_err-put_segments.ensures refl c.from_residual.ensures.1

pub returns-in_err-put_groups : goal.returns-in_err-put_groups
returns-in_err-put_groups g c =
    Wrote-then _ _ _ _ _ _ _ _ _ c.in_ok-put_segments.ensures
    (Wrote-cut _ _ _ _ _ _ _ _ _ c.in_err-put_groups.ensures refl c.from_residual-in_err-put_groups.ensures.1)

pub returns-in_err-put_all : goal.returns-in_err-put_all
returns-in_err-put_all g c =
    Wrote-then _ _ _ _ _ _ _ _ _ c.in_ok-put_segments.ensures
    (Wrote-then _ _ _ _ _ _ _ _ _ c.in_ok-put_groups.ensures
    (Wrote-cut _ _ _ _ _ _ _ _ _ c.in_err-put_all.ensures refl c.from_residual-in_err-put_all.ensures.1))

pub returns-in_err-put_orders : goal.returns-in_err-put_orders
returns-in_err-put_orders g c =
    Wrote-then _ _ _ _ _ _ _ _ _ c.in_ok-put_segments.ensures
    (Wrote-then _ _ _ _ _ _ _ _ _ c.in_ok-put_groups.ensures
    (Wrote-then _ _ _ _ _ _ _ _ _ c.in_ok-put_all.ensures
    (Wrote-cut _ _ _ _ _ _ _ _ _
    (rw (c.deref.ensures.value, c.deref-2.ensures.value) at c.in_err-put_orders.ensures) refl
    c.from_residual-in_err-put_orders.ensures.1)))

pub returns-in_err-put_all-2 : goal.returns-in_err-put_all-2
returns-in_err-put_all-2 g c =
    Wrote-then _ _ _ _ _ _ _ _ _ c.in_ok-put_segments.ensures
    (Wrote-then _ _ _ _ _ _ _ _ _ c.in_ok-put_groups.ensures
    (Wrote-then _ _ _ _ _ _ _ _ _ c.in_ok-put_all.ensures
    (Wrote-then _ _ _ _ _ _ _ _ _
    (rw (c.deref.ensures.value, c.deref-2.ensures.value) at c.in_ok-put_orders.ensures)
    (Wrote-cut _ _ _ _ _ _ _ _ _ c.in_err-put_all-2.ensures refl c.from_residual-in_err-put_all-2.ensures.1))))

pub returns : goal.returns
returns g c =
    Wrote-then _ _ _ _ _ _ _ _ _ c.in_ok-put_segments.ensures
    (Wrote-then _ _ _ _ _ _ _ _ _ c.in_ok-put_groups.ensures
    (Wrote-then _ _ _ _ _ _ _ _ _ c.in_ok-put_all.ensures
    (Wrote-then _ _ _ _ _ _ _ _ _
    (rw (c.deref.ensures.value, c.deref-2.ensures.value) at c.in_ok-put_orders.ensures)
    (Wrote-then _ _ _ _ _ _ _ _ _ c.in_ok-put_all-2.ensures (rw c.registers.ensures at c.put_start.ensures)))))
