use Rattle.omf_extended.specs.View.{plain_alias}
use Rattle.doslib_show.specs.More.{alias_row}
use Rattle.doslib_show.proofs.Chains.{then-said}
use Rattle.doslib_show.proofs.more.push_aliases.Goals as goal

pub returns : goal.returns
returns g c =
    then-said alias_row plain_alias c.args.aliases.now c.push_rows.result c.args.lines.now.items
    c.push_end.new.lines.items c.push_rows.new.lines.items _
    c.in_ok-push_end.ensures c.push_rows.ensures
