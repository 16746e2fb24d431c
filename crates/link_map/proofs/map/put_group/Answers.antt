use Rattle.std.proofs.Common.{◌≡◌, Some, slice_get, refl}
use Rattle.std.proofs.lemmas.Option.{slice_get_read}
use Rattle.link_map.specs.Map.{group_line}
use Rattle.link_map.proofs.map.put_group.Goals as goal

pub returns : goal.returns
unfolding group_line
returns g c =
    let here : slice_get c.args.modules.now c.args.group.now.input ≡ Some c.in-Some.«module».now =
    slice_get_read c.args.modules.now _ c.args.group.now.input c.in-Some.«module».now refl c.in-Some.ensures.lookup.3.0
    c.in-Some.ensures.lookup.1 in
    rw (here, c.group.ensures) c.put_named_group.ensures
