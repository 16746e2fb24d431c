use Rattle.doslib_show.proofs.Chains.{three-ok}
use Rattle.doslib_show.proofs.said.push_comment.Goals as goal

pub returns : goal.returns
returns g c =
    three-ok c.push_comment_bytes.result c.args.lines.now.items c.push_pieces.new.lines.items
    c.push_class_title.new.lines.items c.push_comment_bytes.new.lines.items _ _ _
    (rw c.as_slice.ensures at c.in_ok-push_pieces.ensures) c.in_ok-push_class_title.ensures
    (rw c.is_text.ensures at c.push_comment_bytes.ensures)
