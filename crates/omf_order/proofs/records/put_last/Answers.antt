use Rattle.std.proofs.Common.{◌≤◌, ◌∙◌, ◌++◌, List, ℕ, ap, length, subst, sym, false, None}
use Rattle.std.proofs.lemmas.Result.{on_ok_weaker}
use Rattle.std.specs.List.{AllByRecursion}
use Rattle.omf_record.specs.Record.{Modend}
use Rattle.omf_write.specs.Records.{record_bytes, records_bytes}
use Rattle.omf_write.proofs.Putting.{bytes-last}
use Rattle.omf_order.specs.Records.{group_records, mark_records, mark_segments}
use Rattle.omf_order.specs.inside.Held.{plan_view}
use Rattle.omf_order.proofs.Bodies.{few_marks, small_marks}
use Rattle.omf_order.proofs.records.put_last.Goals as goal

pub put_group-requires-clause-few : goal.put_group-requires-clause-few
put_group-requires-clause-few g c =
    subst (λ (ns : List ℕ). length ns ≤ 2) (sym c.in_ok-segments.ensures)
    (few_marks c.args.plan.now.data_end.part c.args.plan.now.bss_end.part)

pub put_group-requires-clause-small : goal.put_group-requires-clause-small
put_group-requires-clause-small g c =
    subst (λ (ns : List ℕ). AllByRecursion (λ n. n ≤ 16383) ns) (sym c.in_ok-segments.ensures)
    (small_marks c.args.plan.now.data_end.part c.args.plan.now.bss_end.part c.requires.data_end.part
    c.requires.bss_end.part)

pub returns : goal.returns
returns g c =
    let p = plan_view c.args.plan.now in
    let out = c.args.out.now.items in
    let marks = records_bytes (mark_records p.data_end.names p.data_end.part) in
    let ends = records_bytes (mark_records p.bss_end.names p.bss_end.part) in
    on_ok_weaker c.put_end.result (λ e. e
    ∙ ap (λ t. t ++ record_bytes (Modend false None)) (c.in_ok-put_mark-2.ensures
    ∙ ap (λ t. t ++ ends) (c.in_ok-put_mark.ensures
    ∙ ap (λ t. t ++ marks)
    (c.in_ok-put_group.ensures ∙ ap (λ ns. out ++ records_bytes (group_records ns)) c.in_ok-segments.ensures)))
    ∙ bytes-last out (group_records (mark_segments p)) (mark_records p.data_end.names p.data_end.part)
    (mark_records p.bss_end.names p.bss_end.part) (Modend false None)) c.put_end.ensures
