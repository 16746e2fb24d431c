use Rattle.std.proofs.Common.{◌++◌, ap, subst, sym, ◌∙◌}
use Rattle.doslink_files.specs.Files.{contents}
use Rattle.doslink_link.specs.Linking.{bytes_of}
use Rattle.doslink_stock.specs.Searched.{Searched}
use Rattle.doslink_jobs.proofs.Rounds.{faulty-with}
use Rattle.doslink_passes.proofs.Refused.{OnInput-weaker, refused-exit}
use Rattle.doslink_jobs.proofs.gathering.add_round.Goals as goal

pub returns-in_err-keep_files-clause-files : goal.returns-in_err-keep_files-clause-files
returns-in_err-keep_files-clause-files g c =
    λ names rounds holds.
    refused-exit _ c.from_residual.result _ c.from_residual.ensures.1 (λ none. absurd none)
    c.in_err-keep_files.ensures.refused

pub returns-in-Err-clause-files : goal.returns-in-Err-clause-files
returns-in-Err-clause-files g c =
    λ names rounds holds.
    let files = contents c.args.round.items in
    let are = ap bytes_of c.deref.ensures.value ∙ c.in_ok-keep_files.ensures.bytes ∙ ap (λ l. l ++ files) holds.1 in
    let searched = subst (Searched names rounds) (sym c.in_ok-keep_files.ensures.same) holds.0 in
    let is = c.in-Err.ensures names rounds files are searched in
    OnInput-weaker c.stop_at_library.result (faulty-with rounds files _ c.in-Err.fault are is) c.stop_at_library.ensures
