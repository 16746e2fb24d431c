use Rattle.std.proofs.Common.{◌∙◌, ◌++◌, ◌∷◌, [], ap, arith, length, subst, sym}
use Rattle.std.proofs.lemmas.List.{length-map}
use Rattle.std.proofs.lemmas.Result.{on_ok_weaker}
use Rattle.std.specs.Prelude.{codes}
use Rattle.std.specs.List.{AllByRecursion}
use Rattle.omf_record.specs.Record.{Lnames, Theadr}
use Rattle.omf_write.specs.Records.{record_bytes, records_bytes}
use Rattle.omf_order.specs.Records.{last_records, part_records}
use Rattle.omf_order.specs.Segments.{dgroup}
use Rattle.omf_order.specs.inside.Fits.{IsShortPart}
use Rattle.omf_order.specs.inside.Held.{part_view, parts_view, plan_view}
use Rattle.omf_order.proofs.Steps.{bytes-whole}
use Rattle.omf_order.proofs.records.put_module.Goals as goal

pub put_parts-requires-clause-count : goal.put_parts-requires-clause-count
put_parts-requires-clause-count g c =
    omega (arith, c.requires.count, length-map c.args.plan.now.parts.items part_view, ap length c.deref.ensures.value)

pub put_parts-requires-clause-short : goal.put_parts-requires-clause-short
put_parts-requires-clause-short g c =
    subst (λ ps. AllByRecursion IsShortPart (parts_view ps)) (sym c.deref.ensures.value) c.requires.parts

pub returns : goal.returns
returns g c =
    let p = plan_view c.args.plan.now in
    let out = c.args.out.now.items in
    on_ok_weaker c.put_last.result (λ e. e
    ∙ ap (λ t. t ++ records_bytes (last_records p)) (c.in_ok-put_parts.ensures
    ∙ ap (λ ps. c.put_name.new.out.items ++ records_bytes (part_records p.null_bytes 0 (parts_view ps))) c.deref.ensures.value
    ∙ ap (λ t. t ++ records_bytes (part_records p.null_bytes 0 p.parts)) (c.in_ok-put_name.ensures
    ∙ ap (λ t. t ++ record_bytes (Lnames (dgroup ∷ []))) c.in_ok-put_header.ensures))
    ∙ bytes-whole out (Theadr (codes "doslink")) (Lnames (dgroup ∷ [])) (part_records p.null_bytes 0 p.parts) (last_records p))
    c.put_last.ensures
