use Rattle.doslib_show.proofs.Chains.{three-ok}
use Rattle.doslib_show.proofs.more.push_comdat_head.Goals as goal

pub returns : goal.returns
returns g c =
    three-ok c.push_comdat_numbers.result c.args.lines.now.items c.push_comdat_words.new.lines.items
    c.push_allocation.new.lines.items c.push_comdat_numbers.new.lines.items _ _ _ c.in_ok-push_comdat_words.ensures
    c.in_ok-push_allocation.ensures c.push_comdat_numbers.ensures
