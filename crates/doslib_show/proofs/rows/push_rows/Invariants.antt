use Rattle.std.proofs.Common.{◌≡◌, ◌++◌, drop}
use Rattle.std.specs.List.{flat_map}
use Rattle.doslib_show.specs.inside.Parts.{plain_names}
use Rattle.doslib_show.proofs.rows.push_rows.Given as goal

abbrev pub invariant-loop-item : goal.invariant-loop-item
invariant-loop-item g l =
    l.lines.items ++ flat_map (g.T.Row.text (plain_names l.names)) (drop l.item-index l.items)
    ≡ l.initial.lines.items ++ flat_map (g.T.Row.text (plain_names l.names)) l.items
