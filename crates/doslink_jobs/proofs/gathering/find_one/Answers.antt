use Rattle.std.proofs.Common.{◌≡◌, rules, IfOk, subst}
use Rattle.doslink_files.specs.Files.{IsFoundNew}
use Rattle.doslink_words.specs.Tokens.{texts}
use Rattle.doslink_jobs.proofs.gathering.find_one.Goals as goal

pub returns-in-Ok : goal.returns-in-Ok
returns-in-Ok g c =
    let told = g.W.World.bytes c.args.world.now in
    let same : c.in-Ok.name.now ≡ c.args.library.now.name.now = search rules in
    subst (λ n. IfOk c.find_default.result (IsFoundNew told (texts c.args.folders.now) n)) same c.find_default.ensures.found
