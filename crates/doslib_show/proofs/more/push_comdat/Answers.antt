use Rattle.doslib_text.proofs.Texts.{then-ok}
use Rattle.doslib_show.proofs.more.push_comdat.Goals as goal

pub returns : goal.returns
returns g c =
    then-ok c.push_data.result c.args.lines.now.items c.push_comdat_head.new.lines.items c.push_data.new.lines.items _ _
    c.in_ok-push_comdat_head.ensures c.push_data.ensures
