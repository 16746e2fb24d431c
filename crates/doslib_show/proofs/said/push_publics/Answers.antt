use Rattle.omf_record.specs.View.{public_view}
use Rattle.doslib_show.specs.Rows.{public_row}
use Rattle.doslib_show.proofs.Chains.{then-said}
use Rattle.doslib_show.proofs.said.push_publics.Goals as goal

pub returns : goal.returns
returns g c =
    then-said public_row public_view c.args.publics.now c.push_rows.result c.args.lines.now.items
    c.push_base.new.lines.items c.push_rows.new.lines.items _
    c.in_ok-push_base.ensures c.push_rows.ensures
