use Rattle.std.proofs.Common.{◌∙◌, ◌++◌, ◌∷◌, [], ap}
use Rattle.std.proofs.lemmas.Result.{on_ok_weaker}
use Rattle.omf_record.specs.Record.{Lnames}
use Rattle.omf_write.specs.Records.{record_bytes, records_bytes}
use Rattle.omf_order.specs.Records.{null_records, segment_record}
use Rattle.omf_order.specs.inside.Held.{part_view}
use Rattle.omf_order.proofs.Steps.{bytes-part}
use Rattle.omf_order.proofs.records.put_part.Goals as goal

pub returns : goal.returns
returns g c =
    let p = part_view c.args.part.now in
    let place = c.args.place in
    let out = c.args.out.now.items in
    let has = c.has_nulls-has_nulls.result in
    let named = Lnames (p.name ∷ p.class ∷ []) in
    on_ok_weaker c.put_nulls.result (λ e. e
    ∙ ap (λ t. t ++ records_bytes (null_records place has)) (c.in_ok-put_segment.ensures
    ∙ ap (λ t. t ++ record_bytes (segment_record place has p)) c.in_ok-put_names.ensures)
    ∙ bytes-part out named (segment_record place has p) (null_records place has)
    ∙ ap (λ h. out ++ records_bytes (named ∷ segment_record place h p ∷ null_records place h))
    c.has_nulls-has_nulls.ensures) c.put_nulls.ensures
