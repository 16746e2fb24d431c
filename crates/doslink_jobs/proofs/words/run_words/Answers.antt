use Rattle.std.specs.declared.alloc.Global.{Global}
use Rattle.doslink_asked.specs.Asked.{Ask}
use Rattle.doslink_asked.specs.Fronts.{IsFront}
use Rattle.doslink_words.specs.Tokens.{texts}
use Rattle.doslink_files.specs.Written.{StandsAt}
use Rattle.doslink_jobs.proofs.Doing.{EndsBy-done, EndsBy-none, EndsBy-stopped}
use Rattle.doslink_jobs.proofs.words.run_words.Goals as goal

pub returns-in-Ok-Job : goal.returns-in-Ok-Job
returns-in-Ok-Job g c =
    let told = g.W.World.bytes c.args.world in
    let looks = g.W.World.looks c.args.world in
    let Writes = StandsAt (g.W.World.blank c.args.world) (g.W.World.Puts c.args.world) in
    let request = c.args.request.now in
    EndsBy-done Global told looks Writes (texts request.folders.now)
    (Ask told (IsFront told looks request.link.now) request.language (texts request.words.now)) c.in-Ok-Job.job _
    c.run_lines.result (rw c.in-Ok-Job.field-0-is at c.in-Ok-Job.ensures) c.run_lines.ensures

pub returns-in-Ok-Text : goal.returns-in-Ok-Text
returns-in-Ok-Text g c =
    let told = g.W.World.bytes c.args.world in
    let looks = g.W.World.looks c.args.world in
    let Writes = StandsAt (g.W.World.blank c.args.world) (g.W.World.Puts c.args.world) in
    let request = c.args.request.now in
    EndsBy-none Global told Writes (texts request.folders.now)
    (Ask told (IsFront told looks request.link.now) request.language (texts request.words.now)) _ c.print_text.result
    (rw c.in-Ok-Text.field-0-is at c.in-Ok-Text.ensures) c.print_text.ensures

pub returns : goal.returns
returns g c =
    let told = g.W.World.bytes c.args.world in
    let looks = g.W.World.looks c.args.world in
    let Writes = StandsAt (g.W.World.blank c.args.world) (g.W.World.Puts c.args.world) in
    let request = c.args.request.now in
    EndsBy-stopped Global told Writes (texts request.folders.now)
    (Ask told (IsFront told looks request.link.now) request.language (texts request.words.now)) _ c.halt_of.result
    c.finish.result _ c.finish.ensures.status c.halt_of.ensures c.finish.ensures.told
