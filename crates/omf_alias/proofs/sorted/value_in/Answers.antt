use Rattle.std.proofs.Common.{rules, sym, ap, ◌∙◌, arith}
use Rattle.std.proofs.lemmas.List.Sorted.{IsPartitionPoint-from_clause}
use Rattle.omf_alias.proofs.InOrder.{before, value-beyond, value-here, value-nowhere, parted}
use Rattle.omf_alias.proofs.sorted.value_in.Goals as goal

pub returns-in_err-found : goal.returns-in_err-found
returns-in_err-found g c =
    let n = c.args.names in
    let name = c.args.name.now in
    let point = IsPartitionPoint-from_clause (λ v. before n v.name.now name) _ _
    c.partition_point-place.ensures.partitioned (parted n c.args.values.now name c.requires) (λ a r f' k. search rules) in
    c.from_residual.ensures
    ∙ sym (value-beyond n c.args.values.now name c.partition_point-place.result point.0
    c.partition_point-place.ensures.bound (omega (arith, c.in_err-found.ensures.lookup)))

pub returns-then-agree : goal.returns-then-agree
returns-then-agree g c =
    let n = c.args.names in
    let name = c.args.name.now in
    let q = c.in_ok-found.ensures.lookup in
    let point = IsPartitionPoint-from_clause (λ v. before n v.name.now name) _ _
    c.partition_point-place.ensures.partitioned (parted n c.args.values.now name c.requires) (λ a r f' k. search rules) in
    sym (value-here n c.args.values.now name c.partition_point-place.result point.0 c.in_ok-found.found.now
    q.3.0 (sym q.1) (sym c.agree.ensures ∙ c.if-agree.true))

pub returns-else-agree : goal.returns-else-agree
returns-else-agree g c =
    let n = c.args.names in
    let name = c.args.name.now in
    let q = c.in_ok-found.ensures.lookup in
    let v = c.in_ok-found.found.now in
    let place = c.partition_point-place.result in
    let point = IsPartitionPoint-from_clause (λ v. before n v.name.now name) _ _
    c.partition_point-place.ensures.partitioned (parted n c.args.values.now name c.requires) (λ a r f' k. search rules) in
    sym (value-nowhere n c.args.values.now name place v c.requires q.3.0 (sym q.1)
    (ap (λ w. before n w.name.now name) q.1 ∙ point.1 place v (omega arith) q.3.0)
    (sym c.agree.ensures ∙ c.if-agree.false) point.0)
