use Rattle.doslib_text.proofs.Texts.{then-ok}
use Rattle.doslib_show.proofs.more.push_vendor.Goals as goal

pub returns : goal.returns
returns g c =
    then-ok c.push_data.result c.args.lines.now.items c.push_parts.new.lines.items c.push_data.new.lines.items _ _
    (rw c.from.ensures at (rw c.as_slice.ensures at c.in_ok-push_parts.ensures)) c.push_data.ensures
