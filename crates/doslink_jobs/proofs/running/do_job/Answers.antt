use Rattle.std.proofs.Common.{⊎_elim, inl, inr}
use Rattle.doslink_files.specs.Standing.{has_file}
use Rattle.doslink_jobs.proofs.Refused.{halt-exit, halted-exit, halts-weaker}
use Rattle.doslink_jobs.proofs.running.do_job.Goals as goal

pub returns-in_err-check_job : goal.returns-in_err-check_job
returns-in_err-check_job g c =
    halt-exit _ c.from_residual.result _ c.from_residual.ensures.1 (λ none. absurd none)
    (⊎_elim (λ none. inl none)
    (⊎_elim (λ other. inr (inl other))
    (⊎_elim (λ mixed. inr (inr (inl mixed))) (λ many. inr (inr (inr (inl many)))))))
    c.in_err-check_job.ensures

pub returns-in_err-gathered : goal.returns-in_err-gathered
returns-in_err-gathered g c =
    halted-exit _ _ c.from_residual-in_err-gathered.result _ c.from_residual-in_err-gathered.ensures.1
    (λ faulty. (c.in_ok-check_job.ensures, (faulty.0, faulty.1, inl faulty.2))) c.in_err-gathered.ensures.files

pub returns : goal.returns
returns g c =
    let (rounds, are, searched) = c.in_ok-gathered.ensures.files in
    halts-weaker c.link_gathered.result
    (λ done (apart, linked). (c.in_ok-check_job.ensures, apart, (rounds, are, linked)))
    (λ refused. (c.in_ok-check_job.ensures, (rounds, are, inr refused)))
    (λ over. inr (inr (inr (inr (has_file c.in_ok-gathered.gathered.read, over)))))
    (c.link_gathered.ensures rounds searched)
