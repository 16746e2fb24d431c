use Rattle.doslib_show.specs.Rows.{name_row}
use Rattle.doslib_show.proofs.Chains.{then-said}
use Rattle.doslib_show.proofs.said.push_names.Goals as goal

pub returns : goal.returns
returns g c =
    then-said name_row (λ n. n.now) c.args.new.now c.push_rows.result c.args.lines.now.items c.push_end.new.lines.items
    c.push_rows.new.lines.items _
    c.in_ok-push_end.ensures c.push_rows.ensures
