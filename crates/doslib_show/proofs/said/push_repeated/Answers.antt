use Rattle.omf_record.specs.View.{block_view}
use Rattle.doslib_show.specs.Rows.{block_row}
use Rattle.doslib_show.proofs.Chains.{then-said}
use Rattle.doslib_show.proofs.said.push_repeated.Goals as goal

pub returns : goal.returns
returns g c =
    then-said block_row block_view c.args.blocks.now c.push_rows.result c.args.lines.now.items
    c.push_parts.new.lines.items c.push_rows.new.lines.items _
    (rw (c.from.ensures) at (rw c.as_slice.ensures at c.in_ok-push_parts.ensures)) c.push_rows.ensures
