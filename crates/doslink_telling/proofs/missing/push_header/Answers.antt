use Rattle.std.proofs.Common.{◌≡◌, ◌++◌, OnOk, ap, append-nil, codes, subst, sym, ◌∙◌}
use Rattle.std.specs.Option.{option_copied}
use Rattle.omf_text.specs.Printing.{printed_name}
use Rattle.doslink_telling.specs.Missing.{header_text}
use Rattle.doslink_telling.proofs.missing.push_header.Goals as goal

pub returns-in-Some : goal.returns-in-Some
returns-in-Some g c =
    let r = c.push_pieces.result in
    let old = c.args.lines.now.items in
    let new = c.push_pieces.new.lines.items in
    let name = printed_name c.in-Some.header.now in
    subst (λ o. OnOk r (new ≡ old ++ header_text o)) (sym (ap option_copied c.in-Some.is) ∙ c.header_name.ensures)
    (subst (λ t. OnOk r (new ≡ old ++ (codes ", wanted by " ++ t))) (append-nil name)
    (rw c.as_slice.ensures at c.push_pieces.ensures))
