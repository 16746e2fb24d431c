use Rattle.std.proofs.Common.{ℕ, List, Option, subst}
use Rattle.std.specs.Io.KnownBytes.{Keeps}
use Rattle.omf_text.specs.Details.{listing}
use Rattle.omf_commands.specs.Reading.{GoesThrough}
use Rattle.omf_files.specs.Files.{sink_bytes, stage_bytes}
use Rattle.omf_jobs.proofs.Settling.{settled-handed_on}
use Rattle.omf_jobs.proofs.Sources.{source_told}
use Rattle.omf_jobs.proofs.jobs.show_file.Goals as goal

pub returns : goal.returns
returns g c =
    let source = c.show-result.new.source in
    let rest = stage_bytes g.W.Input.Read.remaining (g.W.World.bytes source.world source.path.now) source.stage in
    let old = sink_bytes g.O.Write.contents c.args.output.now in
    let mid = sink_bytes g.O.Write.contents c.show-result.new.sink in
    let told = source_told g.W.World.bytes g.W.Input.Read.remaining c.args.world c.args.file c.open_source-source.result
    c.open_source-source.ensures.world c.open_source-source.ensures.path c.open_source-source.ensures.waiting in
    settled-handed_on {T = Unit {0}} {A = g.row.A.Denot}
    (λ a. (x y : Option (List ℕ)) × GoesThrough listing (g.W.World.bytes c.args.world c.args.file.now) x
    (sink_bytes g.O.Write.contents c.args.output.now) y a × Keeps y (sink_bytes g.O.Write.contents c.flushed.new.sink))
    _ _ _ c.show-result.result _ _ c.by_memory.ensures c.flushed.ensures.kept c.flushed.ensures.failed (
      rest,
      mid,
      subst (λ x. GoesThrough listing x rest old mid c.show-result.result) told
          c.show-result.ensures.output,
      c.flushed.ensures.same,
    )
