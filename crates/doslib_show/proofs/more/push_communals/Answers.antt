use Rattle.std.proofs.lemmas.List.Folds.{flat_map-map}
use Rattle.omf_wide.specs.Communals.{plain_communal}
use Rattle.doslib_show.specs.More.{communal_row}
use Rattle.doslib_show.proofs.Chains.{three-ok}
use Rattle.doslib_show.proofs.more.push_communals.Goals as goal

pub returns : goal.returns
returns g c =
    rw (flat_map-map communal_row plain_communal c.args.communals.now)
    (three-ok c.push_data.result c.args.lines.now.items c.push_end.new.lines.items c.push_rows.new.lines.items
    c.push_data.new.lines.items _ _ _ c.in_ok-push_end.ensures c.in_ok-push_rows.ensures c.push_data.ensures)
