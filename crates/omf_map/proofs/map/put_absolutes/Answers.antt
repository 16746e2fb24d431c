use Rattle.std.proofs.Common.{◌∙◌}
use Rattle.omf_frame.proofs.Told.{Wrote-failed}
use Rattle.omf_module.specs.Seen.{segment_seen}
use Rattle.omf_map.specs.Map.{absolute_line}
use Rattle.omf_map.proofs.MapLemmas.{reads_cut, read_more}
use Rattle.omf_map.proofs.map.put_absolutes.Goals as goal

pub returns-in_err-put_absolute : goal.returns-in_err-put_absolute
returns-in_err-put_absolute g c =
    let loop = c.loop-segment in
    Wrote-failed _ _ _ _ _ _ _
    (reads_cut absolute_line c.args.«module».now.segments loop.segment (segment_seen c.segment.result) _ _ _ _ _ _
    c.segment.ensures loop.invariant.appended loop.invariant.count
    c.in_err-put_absolute.ensures) c.from_residual.ensures.1

pub loop-segment-preserved : goal.loop-segment-preserved
loop-segment-preserved g c =
    let loop = c.loop-segment in
    record {
      count = c.in_ok-put_absolute.ensures.1 ∙ loop.invariant.count;
      appended =
          read_more absolute_line c.args.«module».now.segments loop.segment (segment_seen c.segment.result) _ _ _
          c.segment.ensures loop.invariant.appended c.in_ok-put_absolute.ensures.0;
    }
