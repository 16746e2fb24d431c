use Rattle.doslib_text.proofs.Texts.{then-ok}
use Rattle.doslib_show.proofs.more.push_symbols.Goals as goal

pub returns : goal.returns
returns g c =
    then-ok c.push_rows.result c.args.lines.now.items c.push_parts.new.lines.items c.push_rows.new.lines.items _ _
    (rw c.as_slice.ensures at c.in_ok-push_parts.ensures) c.push_rows.ensures
