use Rattle.std.proofs.Common.{◌≡◌, ◌++◌, ◌∷◌, [], false, true≢false, MatchResult, OnOk, ap}
use Rattle.std.proofs.Common.{map, refl, subst, sym, ◌∙◌}
use Rattle.doslink_words.specs.Tokens.{texts}
use Rattle.doslink_passes.specs.Request.{names_of}
use Rattle.doslink_jobs.specs.Jobs.{library_folders}
use Rattle.doslink_passes.proofs.Refused.{steps-weaker}
use Rattle.doslink_jobs.proofs.Rounds.{files-found, files-none}
use Rattle.doslink_jobs.specs.inside.Absent.{AreAbsentBehind, absent_warnings, library_said}
use Rattle.doslink_jobs.specs.inside.Gathering.{AddsFaulty, AddsRounds}
use Rattle.doslink_passes.specs.Stops.{OnInput}
use Rattle.doslink_jobs.proofs.Absent.{absent-done, absent-unasked}
use Rattle.doslink_jobs.proofs.gathering.add_asked.Goals as goal

pub returns-then-not-job-clause-files : goal.returns-then-not-job-clause-files
returns-then-not-job-clause-files g c =
    λ given holds sought. (
      given ∷ [],
      files-none (g.W.World.bytes c.args.world.now) (texts c.args.folders.now) c.args.job.now given sought,
      holds.0,
    )

pub returns-then-not-job-clause-told : goal.returns-then-not-job-clause-told
returns-then-not-job-clause-told g c =
    λ given holds sought. absent-unasked (g.W.World.bytes c.args.world.now) (texts c.args.folders.now) c.args.job.now
    c.args.gathered.now given c.args.lines.now.items holds sought

pub returns-clause-told : goal.returns-clause-told
returns-clause-told g c =
    λ given holds sought.
    let told = g.W.World.bytes c.args.world.now in
    let job = c.args.job.now in
    let folders = texts c.args.folders.now in
    let all = texts c.deref.result.now in
    let names = names_of job.ignore_case in
    let r = c.add_defaults-added.result in
    let gathered = c.add_defaults-added.new.gathered in
    let absent = map library_said c.add_defaults-added.new.absent.items in
    let folded : all ≡ library_folders folders job = ap texts c.deref.ensures.value ∙
    c.in_ok-everywhere.ensures in
    let on : job.default_libraries ≡ false → ⊥ = λ off. true≢false (sym c.if-not-job.false ∙ off) in
    let behind = subst (λ ls. OnOk r (AreAbsentBehind told all (texts ls) names (given ∷ []) gathered
    (map library_said c.new-absent.result.items) absent)) c.deref-2.ensures.value
    (c.add_defaults-added.ensures.absent names (given ∷ []) holds) in
    absent-done told folders all job gathered given absent r c.is_err.result c.args.lines.now.items
    c.warn_of_absent.new.lines.items c.extend_from_slice.new.self.items c.add_defaults-added.new.lines.items
    folded on sought c.is_err.ensures.value
    (subst (λ none. OnOk r (AreAbsentBehind told all (texts job.left_out.items) names (given ∷ []) gathered
    (map library_said none) absent)) c.new-absent.ensures.items behind)
    (subst (λ none. OnOk r (c.add_defaults-added.new.lines.items ≡ none)) c.new-told.ensures.items
    c.add_defaults-added.ensures.kept)
    (c.in_ok-warn_of_absent.ensures ∙ ap (λ l. c.args.lines.now.items ++ absent_warnings job c.is_err.result
    (map library_said l)) c.deref-3.ensures.value)
    (c.in_ok-extend_from_slice.ensures.items ∙ ap (λ l. c.warn_of_absent.new.lines.items ++ l) c.deref-4.ensures.value)

pub returns-clause-files : goal.returns-clause-files
returns-clause-files g c =
    λ given holds sought.
    let told = g.W.World.bytes c.args.world.now in
    let job = c.args.job.now in
    let folders = texts c.args.folders.now in
    let all = texts c.deref.result.now in
    let names = names_of job.ignore_case in
    let folded : all ≡ library_folders folders job = ap texts c.deref.ensures.value ∙
    c.in_ok-everywhere.ensures in
    let on : job.default_libraries ≡ false → ⊥ = λ off. true≢false (sym c.if-not-job.false ∙ off) in
    let r = c.add_defaults-added.result in
    let gathered = c.add_defaults-added.new.gathered in
    steps-weaker r
    (λ done adds. (
      given ∷ adds.0,
      files-found told folders all job names given adds.0 folded refl on sought adds.1,
      adds.2.0,
    ))
    (λ faulty. (
      given ∷ faulty.0,
      files-found told folders all job names given faulty.0 folded refl on sought faulty.1,
      faulty.2,
    ))
    (subst (λ ls. MatchResult r (λ done. AddsRounds told all (texts ls) names (given ∷ []) gathered)
    (λ stop. OnInput stop (AddsFaulty told all (texts ls) names (given ∷ [])))) c.deref-2.ensures.value
    (c.add_defaults-added.ensures.files names (given ∷ []) holds))
