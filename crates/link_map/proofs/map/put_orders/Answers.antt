use Rattle.std.proofs.Common.{refl}
use Rattle.omf_frame.proofs.Told.{Wrote-cut, Wrote-then}
use Rattle.link_map.proofs.map.put_orders.Goals as goal

pub returns-in_err-put_all : goal.returns-in_err-put_all
returns-in_err-put_all g c = Wrote-cut _ _ _ _ _ _ _ _ _ c.in_err-put_all.ensures refl c.from_residual.ensures.1

pub returns-in_err-put_publics : goal.returns-in_err-put_publics
returns-in_err-put_publics g c =
    Wrote-then _ _ _ _ _ _ _ _ _ c.in_ok-put_all.ensures
    (Wrote-cut _ _ _ _ _ _ _ _ _ c.in_err-put_publics.ensures refl c.from_residual-in_err-put_publics.ensures.1)

pub returns-in_err-put_all-2 : goal.returns-in_err-put_all-2
returns-in_err-put_all-2 g c =
    Wrote-then _ _ _ _ _ _ _ _ _ c.in_ok-put_all.ensures
    (Wrote-then _ _ _ _ _ _ _ _ _ c.in_ok-put_publics.ensures
    (Wrote-cut _ _ _ _ _ _ _ _ _ c.in_err-put_all-2.ensures refl c.from_residual-in_err-put_all-2.ensures.1))

pub returns : goal.returns
returns g c =
    Wrote-then _ _ _ _ _ _ _ _ _ c.in_ok-put_all.ensures
    (Wrote-then _ _ _ _ _ _ _ _ _ c.in_ok-put_publics.ensures
    (Wrote-then _ _ _ _ _ _ _ _ _ c.in_ok-put_all-2.ensures c.put_publics-2.ensures))
