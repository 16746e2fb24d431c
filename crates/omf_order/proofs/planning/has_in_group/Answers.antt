use Rattle.std.proofs.Common.{◌≡◌, ◌∙◌, ap, is_some}
use Rattle.std.specs.List.{list_any}
use Rattle.omf_order.specs.Plan.{is_in_group}
use Rattle.omf_order.specs.inside.Held.{parts_view}
use Rattle.omf_order.proofs.Selecting.{is_some_position}
use Rattle.omf_order.proofs.planning.has_in_group.Goals as goal

pub returns : goal.returns
returns c =
    let e : is_some c.place_in_group.result ≡ list_any (is_in_group c.args.class.now) (parts_view c.args.parts.now) =
    ap is_some c.place_in_group.ensures
    ∙ is_some_position (is_in_group c.args.class.now) (parts_view c.args.parts.now) in
    cc
