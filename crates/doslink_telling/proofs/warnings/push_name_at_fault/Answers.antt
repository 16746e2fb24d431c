use Rattle.std.proofs.Common.{◌≡◌, ◌++◌, OnOk, append-nil, codes, subst, sym}
use Rattle.omf_text.specs.Printing.{printed_name}
use Rattle.doslink_telling.proofs.warnings.push_name_at_fault.Goals as goal

pub returns-in-None : goal.returns-in-None
returns-in-None g c = rw c.in-None.is (sym (append-nil c.args.lines.now.items))

pub returns-in-Some : goal.returns-in-Some
returns-in-Some g c =
    let old = c.args.lines.now.items in
    let new = c.push_pieces.new.lines.items in
    rw c.in-Some.is
    (subst (λ t. OnOk c.push_pieces.result (new ≡ old ++ (codes " " ++ t)))
    (append-nil (printed_name c.in-Some.name.now))
    (rw c.as_slice.ensures at c.push_pieces.ensures))
