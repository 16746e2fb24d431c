use Rattle.std.proofs.Common.{◌≡◌, Some, slice_get, refl}
use Rattle.std.proofs.lemmas.Option.{slice_get_read}
use Rattle.link_map.specs.Map.{combined_line}
use Rattle.link_map.proofs.map.put_combined.Goals as goal

pub returns : goal.returns
unfolding combined_line
returns g c =
    let here : slice_get c.args.modules.now c.args.combined.now.input ≡ Some c.in-Some.«module».now =
    slice_get_read c.args.modules.now _ c.args.combined.now.input c.in-Some.«module».now refl
    c.in-Some.ensures.lookup.3.0 c.in-Some.ensures.lookup.1 in
    rw (here, c.segment-segment.ensures) (rw c.saturating_sub-size.ensures at c.put_segment.ensures)
