use Rattle.doslib_text.proofs.Texts.{then-ok}
use Rattle.doslib_names.proofs.lines.push_doubled_name.Goals as goal

pub returns : goal.returns
returns g c =
    let one = then-ok c.push_pieces-2.result c.push_pieces.new.lines.items c.push_module_at-2.new.text.items
    c.push_pieces-2.new.lines.items _ _ c.in_ok-push_module_at-2.ensures c.push_pieces-2.ensures in
    let two = then-ok c.push_pieces-2.result c.push_module_at.new.text.items c.push_pieces.new.lines.items
    c.push_pieces-2.new.lines.items _ _ c.in_ok-push_pieces.ensures one in
    let three = then-ok c.push_pieces-2.result c.push_name.new.text.items c.push_module_at.new.text.items
    c.push_pieces-2.new.lines.items _ _ c.in_ok-push_module_at.ensures two in
    then-ok c.push_pieces-2.result c.args.text.now.items c.push_name.new.text.items c.push_pieces-2.new.lines.items
    _ _ c.in_ok-push_name.ensures three
