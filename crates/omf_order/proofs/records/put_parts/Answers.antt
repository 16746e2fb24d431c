use Rattle.std.proofs.Common.{◌∙◌, ◌++◌, ap, arith, append-nil, sym}
use Rattle.std.proofs.lemmas.List.{take_all}
use Rattle.omf_order.specs.Records.{part_records, records_bytes}
use Rattle.omf_order.specs.inside.Held.{parts_view}
use Rattle.omf_order.proofs.Steps.{part-step, short_at}
use Rattle.omf_order.proofs.records.put_parts.Goals as goal

pub put_part-requires-clause-short : goal.put_part-requires-clause-short
put_part-requires-clause-short g c =
    short_at c.args.parts.now c.loop-place.place _ c.requires.short c.loop-place-test.true

pub loop-place-preserved : goal.loop-place-preserved
loop-place-preserved g c =
    part-step c.args.null_bytes c.args.parts.now c.loop-place.place _ c.args.out.now.items c.loop-place.out.items _
    c.loop-place-test.true c.loop-place.invariant c.in_ok-put_part.ensures

pub loop-place-init : goal.loop-place-init
loop-place-init g c = sym (append-nil c.args.out.now.items)

pub returns : goal.returns
returns g c =
    c.loop-place.invariant
    ∙ ap (λ ps. c.args.out.now.items ++ records_bytes (part_records c.args.null_bytes 0 (parts_view ps)))
    (take_all c.loop-place.place c.args.parts.now (omega arith))
