use Rattle.std.proofs.Common.{ap, cond, subst, sym, true, ◌≡◌, ◌∙◌, ◌⊎◌, Some}
use Rattle.std.specs.Ordering.{is_eq}
use Rattle.doslink_files.specs.Standing.{file_order, has_file}
use Rattle.doslink_files.proofs.LeftOut.{one-known}
use Rattle.doslink_files.proofs.reading.Reading.mark.Goals as goal
use Rattle.doslink_files.proofs.reading.Reading.mark.Goals.{in-Some+in_ok-insert, in_default}

pub returns-in_ok-insert-2-clause-known : goal.returns-in_ok-insert-2-clause-known
returns-in_ok-insert-2-clause-known g c q has =
    let old = c.args.self.now.known in
    let id = c.in-Some-regular.id in
    let same : c.match-id.self.known ≡ old = elim c.match-id.branch [
      | in-Some+in_ok-insert w ↦ ap (λ r. r.known) w.self-is
      | in_default w ↦ ap (λ r. r.known) w.self-is
    ] in
    subst (λ r. (has_file old q ≡ true) ⊎ (r ≡ Some q)) (sym c.in-Some-regular.is)
    (one-known id old c.insert-in-Some-regular.new.self
    (λ p. c.in_ok-insert-2.ensures.updates.0 p
    ∙ ap (λ s. cond (is_eq (file_order id p)) true (has_file s p)) same) q has)
