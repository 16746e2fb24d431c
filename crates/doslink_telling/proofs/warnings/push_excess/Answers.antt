use Rattle.std.proofs.Common.{◌≡◌, [], ◌∷◌, ◌++◌, ◌∙◌, OnOk, ap, codes, decimal, subst, sym}
use Rattle.std.proofs.lemmas.List.Folds.{concat-append}
use Rattle.std.specs.List.{concat}
use Rattle.omf_faults.specs.FaultLines.{name_at_fault, program_label}
use Rattle.doslink_telling.specs.Warnings.{grouped, name_text, over_end}
use Rattle.doslink_telling.proofs.Texts.{then-ok}
use Rattle.doslink_telling.proofs.warnings.push_excess.Goals as goal

pub returns : goal.returns
returns g c =
    let r = c.push_counted.result in
    let s0 = c.args.lines.now.items in
    let s1 = c.push_program_label.new.lines.items in
    let s2 = c.push_name_at_fault.new.lines.items in
    let s3 = c.push_counted.new.lines.items in
    let label = program_label c.args.fault.now in
    let front = codes "doslink: link: " ∷ decimal label.0 ∷ codes " " ∷ label.1 ∷ [] in
    let name = name_text (name_at_fault c.args.fault.now) in
    let rest = codes ": " ∷ grouped c.args.bytes ∷ over_end c.args.bytes ∷ [] in
    let named : s2 ≡ s1 ++ name = c.in_ok-push_name_at_fault.ensures ∙ ap (λ n. s1 ++ name_text n) c.name_at_fault.ensures in
    subst (λ l. OnOk r (s3 ≡ s0 ++ l)) (sym (concat-append front (name ∷ rest)))
    (then-ok r s0 s1 s3 (concat front) (concat (name ∷ rest)) c.in_ok-push_program_label.ensures
    (then-ok r s1 s2 s3 name (concat rest) named (rw c.over_end.ensures at c.push_counted.ensures)))
