use Rattle.doslib_text.proofs.Texts.{then-ok}
use Rattle.doslib_text.proofs.listing.push_member.Goals as goal

pub returns : goal.returns
returns g c =
    then-ok c.push_module_names.result c.args.lines.now.items c.push_member_line.new.lines.items
    c.push_module_names.new.lines.items _ _ c.in_ok-push_member_line.ensures c.push_module_names.ensures
