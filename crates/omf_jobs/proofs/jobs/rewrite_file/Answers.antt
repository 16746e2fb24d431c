use Rattle.std.proofs.Common.{ℕ, List, Option, Result, subst}
use Rattle.omf_faults.specs.declared.fault.LinkFault.{LinkFault}
use Rattle.omf_commands.specs.Reading.{GoesThrough}
use Rattle.omf_files.specs.declared.files.CreatedFile.{CreatedFile}
use Rattle.omf_files.specs.Files.{created_bytes, sink_bytes, stage_bytes}
use Rattle.omf_jobs.specs.Jobs.{canonical_record}
use Rattle.omf_jobs.proofs.Settling.{settled-handed_on, settled-kept}
use Rattle.omf_jobs.proofs.Sources.{source_told}
use Rattle.omf_jobs.proofs.jobs.rewrite_file.Goals as goal

pub returns : goal.returns
returns g c =
    let source = c.rewrite-result.new.source in
    let rest = stage_bytes g.W.Input.Read.remaining (g.W.World.bytes source.world source.path.now) source.stage in
    let told = source_told g.W.World.bytes g.W.Input.Read.remaining c.args.world c.args.from c.open_source-source.result
    c.open_source-source.ensures.world c.open_source-source.ensures.path c.open_source-source.ensures.waiting in
    let written : CreatedFile g.row.W.Denot g.row.W-Input.Denot g.row.W-Created.Denot → Option (List ℕ) =
    λ s. created_bytes g.W.Created.Write.contents (g.W.World.blank s.world) s.file in
    let before = sink_bytes written c.in_ok-sink.sink in
    let after = sink_bytes written c.rewrite-result.new.sink in
    let P : Result (Unit {0}) (LinkFault g.row.A.Denot) → Type 0 = λ a.
    (x y z : Option (List ℕ)) × GoesThrough canonical_record (g.W.World.bytes c.args.world c.args.from.now) x y z a in
    settled-kept P _ c.kept.result c.kept.ensures
    (settled-handed_on P _ _ _ c.rewrite-result.result _ _ c.by_memory.ensures c.flushed-answer.ensures.kept
    c.flushed-answer.ensures.failed (
      rest,
      before,
      after,
      subst (λ x. GoesThrough canonical_record x rest before after c.rewrite-result.result) told
          c.rewrite-result.ensures.output,
    ))
