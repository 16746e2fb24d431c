use Rattle.std.proofs.Common.{refl}
use Rattle.omf_frame.proofs.Told.{Wrote-cut, Wrote-then}
use Rattle.omf_map.specs.Map.{public_line}
use Rattle.omf_map.proofs.map.put_public.Goals as goal

pub returns-in_err-put_address : goal.returns-in_err-put_address
unfolding public_line
returns-in_err-put_address g c =
    rw (c.if-symbol.false, ← c.in-Some.ensures)
    (Wrote-cut _ _ _ _ _ _ _ _ _ c.in_err-put_address.ensures refl c.from_residual.ensures.1)

pub returns : goal.returns
unfolding public_line
returns g c =
    rw (c.if-symbol.false, ← c.in-Some.ensures)
    (Wrote-then _ _ _ _ _ _ _ _ _ c.in_ok-put_address.ensures (rw c.as_slice.ensures at c.put_each.ensures))
