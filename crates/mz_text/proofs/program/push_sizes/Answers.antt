use Rattle.mz_text.proofs.Texts.{then-ok}
use Rattle.mz_text.proofs.program.push_sizes.Goals as goal

pub returns : goal.returns
returns g c =
    let r = c.push_size-4.result in
    let s4 = c.push_size-4.new.lines.items in
    then-ok r c.args.lines.now.items c.push_size.new.lines.items s4 _ _ c.in_ok-push_size.ensures
    (then-ok r c.push_size.new.lines.items c.push_size-2.new.lines.items s4 _ _ c.in_ok-push_size-2.ensures
    (then-ok r c.push_size-2.new.lines.items c.push_size-3.new.lines.items s4 _ _ c.in_ok-push_size-3.ensures
    c.push_size-4.ensures))
