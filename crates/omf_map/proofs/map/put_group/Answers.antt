use Rattle.std.proofs.Common.{◌≡◌, Some, slice_get, refl}
use Rattle.std.proofs.lemmas.Option.{slice_get_read}
use Rattle.omf_frame.proofs.Told.{Wrote-cut, Wrote-then}
use Rattle.omf_map.specs.Map.{group_line}
use Rattle.omf_map.proofs.map.put_group.Goals as goal

pub returns-in_err-put_frame : goal.returns-in_err-put_frame
unfolding group_line
returns-in_err-put_frame g c =
    let here : slice_get c.args.modules.now c.args.group.now.input ≡ Some c.in-Some.«module».now =
    slice_get_read c.args.modules.now _ c.args.group.now.input c.in-Some.«module».now refl c.in-Some.ensures.lookup.3.0
    c.in-Some.ensures.lookup.1 in
    rw (here, c.group-named.ensures)
    (Wrote-cut _ _ _ _ _ _ _ _ _ c.in_err-put_frame.ensures refl c.from_residual.ensures.1)

pub returns : goal.returns
unfolding group_line
returns g c =
    let here : slice_get c.args.modules.now c.args.group.now.input ≡ Some c.in-Some.«module».now =
    slice_get_read c.args.modules.now _ c.args.group.now.input c.in-Some.«module».now refl c.in-Some.ensures.lookup.3.0
    c.in-Some.ensures.lookup.1 in
    rw (here, c.group-named.ensures)
    (Wrote-then _ _ _ _ _ _ _ _ _ c.in_ok-put_frame.ensures (rw c.as_slice.ensures at c.put_each.ensures))
