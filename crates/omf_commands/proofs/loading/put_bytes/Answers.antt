use Rattle.std.proofs.Common.{rules, ◌∙◌, ◌+◌, ◌*◌, ◌/◌, ◌<◌, ◌≤◌, length, refl}
use Rattle.omf_frame.proofs.Told.{Wrote-failed}
use Rattle.omf_commands.proofs.Listed.{line_is, line_more, line_cut, all_lines}
use Rattle.omf_commands.proofs.loading.put_bytes.Goals as goal

pub returns-in_err-put_bytes_line : goal.returns-in_err-put_bytes_line
returns-in_err-put_bytes_line g c =
    let i = c.loop-line.line in
    let bytes = c.args.bytes.now in
    let below : i < (length bytes + 15) / 16 = search rules in
    let is =
    line_is c.args.address bytes i (c.args.address + 16 * i) (16 * i) c.min-count.result below refl refl
    c.min-count.ensures in
    Wrote-failed _ _ _ _ _ _ _
    (line_cut c.args.address bytes i _ _ _ _ _ _ _ below is c.loop-line.invariant.appended c.loop-line.invariant.count
    c.in_err-put_bytes_line.ensures) c.from_residual.ensures.1

pub loop-line-preserved : goal.loop-line-preserved
loop-line-preserved g c =
    let i = c.loop-line.line in
    let bytes = c.args.bytes.now in
    let below : i < (length bytes + 15) / 16 = search rules in
    let is =
    line_is c.args.address bytes i (c.args.address + 16 * i) (16 * i) c.min-count.result below refl refl
    c.min-count.ensures in
    record {
      count = c.in_ok-put_bytes_line.ensures.1 ∙ c.loop-line.invariant.count;
      appended =
          line_more c.args.address bytes i _ _ _ _ below is c.loop-line.invariant.appended
          c.in_ok-put_bytes_line.ensures.0;
    }

pub returns : goal.returns
returns g c =
    let past : (length c.args.bytes.now + 15) / 16 ≤ c.loop-line.line = search rules in (
      all_lines c.args.address c.args.bytes.now c.loop-line.line _ _ past
          c.loop-line.invariant.appended,
      c.loop-line.invariant.count,
    )
