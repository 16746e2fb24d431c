use Rattle.doslib_text.proofs.Texts.{then-ok}
use Rattle.doslib_show.proofs.said.push_subrecords.Goals as goal

pub returns : goal.returns
returns g c =
    then-ok c.push_rows.result c.args.lines.now.items c.push_end.new.lines.items c.push_rows.new.lines.items _ _
    c.in_ok-push_end.ensures c.push_rows.ensures
