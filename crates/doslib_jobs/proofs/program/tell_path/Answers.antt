use Rattle.std.proofs.Common.{Err, Ok, refl}
use Rattle.omf_files.specs.Files.{sink_bytes}
use Rattle.mz.specs.Reading.{reading}
use Rattle.doslink_files.specs.Written.{StandsAt}
use Rattle.doslib_jobs.specs.Program.{TellsFile, TellsPath}
use Rattle.doslib_jobs.proofs.Finding.{said-weaker}
use Rattle.doslib_jobs.proofs.program.tell_path.Goals as goal

pub returns-in-Ok : goal.returns-in-Ok
returns-in-Ok g c =
    let bytes = c.deref.result.now in
    let stands = StandsAt (g.W.World.blank c.args.world) (g.W.World.Puts c.args.world) in
    let old = sink_bytes g.O.Write.contents c.args.output.now in
    let new = sink_bytes g.O.Write.contents c.tell_bytes.new.output in
    said-weaker c.tell_bytes.result
    (TellsFile stands c.args.asked.path.now c.args.asked.image bytes (reading bytes) old new)
    (TellsPath (g.W.World.bytes c.args.world) stands c.args.asked.path.now c.args.asked.image old new)
    (λ answer tells. (Ok c.in-Ok.file.bytes.items, c.in-Ok.ensures.told, rw c.deref.ensures.value at tells))
    c.tell_bytes.ensures

pub returns-in_ok-unread-in-Err : goal.returns-in_ok-unread-in-Err
returns-in_ok-unread-in-Err g c =
    (Err c.in-Err.fault, tt, (refl, c.in_ok-unread-in-Err.ensures.lines, c.in_ok-unread-in-Err.ensures.status))
