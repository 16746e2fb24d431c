use Rattle.std.proofs.Common.{◌∷◌, [], ◌∙◌, ap, subst}
use Rattle.doslink_files.specs.Files.{contents}
use Rattle.doslink_link.specs.Linking.{bytes_of}
use Rattle.doslink_stock.specs.Searched.{Searched}
use Rattle.doslink_words.specs.Tokens.{texts}
use Rattle.doslink_passes.specs.Request.{names_of}
use Rattle.doslink_jobs.specs.inside.Absent.{AreAbsentTold}
use Rattle.doslink_passes.proofs.Refused.{refused-exit}
use Rattle.doslink_jobs.proofs.Rounds.{files-none}
use Rattle.doslink_jobs.proofs.gathering.gather.Goals as goal

pub returns-in_err-given-clause-files : goal.returns-in_err-given-clause-files
returns-in_err-given-clause-files g c =
    refused-exit _ c.from_residual.result _ c.from_residual.ensures.1 (λ none. absurd none) c.in_err-given.ensures.files

pub returns-in_err-add_round-clause-files : goal.returns-in_err-add_round-clause-files
returns-in_err-add_round-clause-files g c =
    let given = contents c.in_ok-given.given.items in
    let none = subst (λ n. Searched n [] c.new-3.result) c.names_of.ensures c.new-3.ensures in
    refused-exit _ c.from_residual-in_err-add_round.result _ c.from_residual-in_err-add_round.ensures.1
    (λ faulty. (
      given ∷ [],
      files-none (g.W.World.bytes c.args.world.now) (texts c.args.besides.now.folders.now) c.args.job.now given
          c.in_ok-given.ensures.files,
      faulty,
    ))
    (c.in_err-add_round.ensures.files (names_of c.args.job.now.ignore_case) []
    (none, ap bytes_of c.new-2.ensures.items))

pub returns-clause-files : goal.returns-clause-files
returns-clause-files g c =
    let given = contents c.in_ok-given.given.items in
    let none = subst (λ n. Searched n [] c.new-3.result) c.names_of.ensures c.new-3.ensures in
    c.in_ok-add_asked.ensures.files given
    (c.in_ok-add_round.ensures.files (names_of c.args.job.now.ignore_case) [] (none, ap bytes_of c.new-2.ensures.items))
    c.in_ok-given.ensures.files

pub returns-clause-told : goal.returns-clause-told
returns-clause-told g c =
    let given = contents c.in_ok-given.given.items in
    let none = subst (λ n. Searched n [] c.new-3.result) c.names_of.ensures c.new-3.ensures in
    subst (λ old. AreAbsentTold (g.W.World.bytes c.args.world.now) (texts c.args.besides.now.folders.now) c.args.job.now
    c.add_asked.new.gathered old c.add_asked.new.lines.items)
    (c.in_ok-add_round.ensures.kept ∙ c.in_ok-given.ensures.kept)
    (c.in_ok-add_asked.ensures.told given
    (c.in_ok-add_round.ensures.files (names_of c.args.job.now.ignore_case) [] (none, ap bytes_of c.new-2.ensures.items))
    c.in_ok-given.ensures.files)

pub returns-in_err-add_asked-clause-files : goal.returns-in_err-add_asked-clause-files
returns-in_err-add_asked-clause-files g c =
    let given = contents c.in_ok-given.given.items in
    let none = subst (λ n. Searched n [] c.new-3.result) c.names_of.ensures c.new-3.ensures in
    refused-exit _ c.from_residual-in_err-add_asked.result _ c.from_residual-in_err-add_asked.ensures.1
    (λ faulty. faulty)
    (c.in_err-add_asked.ensures.files given
    (c.in_ok-add_round.ensures.files (names_of c.args.job.now.ignore_case) [] (none, ap bytes_of c.new-2.ensures.items))
    c.in_ok-given.ensures.files)
