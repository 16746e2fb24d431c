use Rattle.omf_record.specs.View.{external_view}
use Rattle.doslib_show.specs.Rows.{external_row}
use Rattle.doslib_show.proofs.Chains.{then-said}
use Rattle.doslib_show.proofs.said.push_externals.Goals as goal

pub returns : goal.returns
returns g c =
    then-said external_row external_view c.args.externals.now c.push_rows.result c.args.lines.now.items
    c.push_end.new.lines.items c.push_rows.new.lines.items _
    c.in_ok-push_end.ensures c.push_rows.ensures
