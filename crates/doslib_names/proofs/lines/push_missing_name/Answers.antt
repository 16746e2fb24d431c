use Rattle.doslib_text.proofs.Texts.{then-ok}
use Rattle.doslib_names.proofs.lines.push_missing_name.Goals as goal

pub returns : goal.returns
returns g c =
    let last = rw c.in_ok-place.ensures at (rw c.as_slice.ensures at c.push_pieces.ensures) in
    let two =
    then-ok c.push_pieces.result c.push_name.new.text.items c.push_module.new.text.items c.push_pieces.new.lines.items
    _ _ c.in_ok-push_module.ensures last in
    then-ok c.push_pieces.result c.args.text.now.items c.push_name.new.text.items c.push_pieces.new.lines.items
    _ _ c.in_ok-push_name.ensures two
