use Rattle.std.proofs.Common.{◌∙◌, ◌++◌, ap, append-nil, sym}
use Rattle.doslib_text.proofs.Texts.{then-ok}
use Rattle.doslib_text.proofs.fault.push_faults.Goals as goal

pub returns-in-Some : goal.returns-in-Some
returns-in-Some g c = rw c.in-Some.is
    (then-ok c.push_fault.result c.args.lines.now.items c.push_module_faults.new.lines.items
    c.push_fault.new.lines.items _ _ c.in_ok-push_module_faults.ensures c.push_fault.ensures)

pub returns-in-None : goal.returns-in-None
returns-in-None g c = rw c.in-None.is
    (c.in_ok-push_module_faults.ensures ∙ ap (λ l. c.args.lines.now.items ++ l) (sym (append-nil _)))
