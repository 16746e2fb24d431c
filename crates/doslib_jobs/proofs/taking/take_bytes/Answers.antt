use Rattle.std.proofs.Common.{◌≡◌, ◌∙◌, ap, max, ◌++◌}
use Rattle.doslib_text.specs.Faults.{list_faults}
use Rattle.doslib_jobs.specs.Reading.{faults_status}
use Rattle.doslib_jobs.proofs.Running.{faulted}
use Rattle.doslib_jobs.proofs.taking.take_bytes.Goals as goal

pub returns : goal.returns
returns g c =
    let said : c.deref.result.now ≡ list_faults c.args.path.now c.args.bytes.items =
    c.deref.ensures.value ∙ c.in_ok-faults.ensures
    ∙ faulted c.args.path.now c.args.bytes.items _ _ c.in_ok-whole.ensures.members c.in_ok-whole.ensures.fault in
    record {
      kind = c.in_ok-whole.ensures.kind;
      members = c.in_ok-whole.ensures.members;
      lines =
          c.in_ok-add_faults.ensures.lines ∙ ap (λ l. c.args.outcome.now.lines.items ++ l) said;
      status =
          c.in_ok-add_faults.ensures.status ∙ ap (λ l. max c.args.outcome.now.status (faults_status l)) said;
    }
