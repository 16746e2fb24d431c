use Rattle.std.proofs.Common.{◌≡◌, arith, map}
use Rattle.doslib_jobs.specs.inside.Libraries.{source_said}
use Rattle.doslib_jobs.proofs.Libraries.{does-badly, does-well, said-weaker}
use Rattle.doslib_jobs.proofs.extracting.extract.Goals as goal

pub returns-then-outcome-gt0 : goal.returns-then-outcome-gt0
returns-then-outcome-gt0 g c = does-badly _ _ _ _ _ _ c.in_ok-taken.ensures c.if-outcome-gt0.true

pub returns : goal.returns
returns g c =
    let none : c.take_files.new.outcome.status ≡ 0 = omega (arith, c.if-outcome-gt0.false) in
    said-weaker c.extract_taken.result _ _
    (λ o done. does-well _ _ _ (map source_said c.in_ok-taken.taken.items) _ _ o.lines.items o.status
    c.in_ok-taken.ensures none done)
    (rw c.deref.ensures.value at c.extract_taken.ensures)
