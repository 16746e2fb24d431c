use Rattle.std.proofs.Common.{◌∙◌, ap, arith, length, nat_lt, refl, sym}
use Rattle.std.proofs.lemmas.List.{take_all}
use Rattle.std.specs.List.{list_any}
use Rattle.omf_communal.proofs.Searching.{any_at, any_kept}
use Rattle.omf_module.specs.Module.{DataRecord}
use Rattle.doslink_jobs.proofs.Warning.{has-none, has-some}
use Rattle.doslink_jobs.proofs.warnings.has_data.Goals as goal

pub loop-index-init : goal.loop-index-init
loop-index-init g c = refl

pub returns-then-not-is_empty : goal.returns-then-not-is_empty
returns-then-not-is_empty g c =
    sym (any_at (λ (r : DataRecord). nat_lt 0 (length r.pairs)) c.args.one.now.data_records c.loop-index.index _
    c.data_record.ensures.seen
    (has-some c.data_record.result.places.now c.data_record.result.bytes.now _ c.data_record.ensures.lengths
    c.is_empty.ensures c.if-not-is_empty.true))

pub loop-index-preserved : goal.loop-index-preserved
loop-index-preserved g c =
    any_kept (λ (r : DataRecord). nat_lt 0 (length r.pairs)) c.args.one.now.data_records c.loop-index.index _
    c.data_record.ensures.seen c.loop-index.invariant
    (has-none c.data_record.result.places.now c.data_record.result.bytes.now _ c.is_empty.ensures
    c.if-not-is_empty.false)

pub returns : goal.returns
returns g c =
    sym (ap (list_any (λ (r : DataRecord). nat_lt 0 (length r.pairs)))
    (sym (take_all c.loop-index.index c.args.one.now.data_records (omega arith))) ∙ c.loop-index.invariant)
