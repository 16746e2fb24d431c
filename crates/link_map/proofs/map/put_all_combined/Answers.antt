use Rattle.std.proofs.Common.{◌∙◌}
use Rattle.omf_frame.proofs.Told.{Wrote-failed}
use Rattle.link_map.specs.Map.{combined_line}
use Rattle.omf_map.proofs.MapLemmas.{reads_cut, read_more}
use Rattle.link_map.proofs.map.put_all_combined.Goals as goal

pub returns-in_err-put_combined : goal.returns-in_err-put_combined
returns-in_err-put_combined g c =
    let loop = c.loop-index in
    Wrote-failed _ _ _ _ _ _ _
    (reads_cut (combined_line c.args.form c.args.modules.now) c.args.layout.now.combined loop.index
    c.combined.result _ _ _ _ _ _
    c.combined.ensures loop.invariant.appended loop.invariant.count
    c.in_err-put_combined.ensures) c.from_residual.ensures.1

pub loop-index-preserved : goal.loop-index-preserved
loop-index-preserved g c =
    let loop = c.loop-index in
    record {
      count = c.in_ok-put_combined.ensures.1 ∙ loop.invariant.count;
      appended =
          read_more (combined_line c.args.form c.args.modules.now) c.args.layout.now.combined loop.index
          c.combined.result _ _ _
          c.combined.ensures loop.invariant.appended c.in_ok-put_combined.ensures.0;
    }
