use Rattle.std.proofs.Common.{rules, ltb, leb}
use Rattle.std.proofs.lemmas.List.Sorted.{IsPartitionPoint-from_clause, IsPartitionedBy-leb, IsPartitionedBy-ltb}
use Rattle.omf_lines.specs.declared.line.Line.{Line}
use Rattle.omf_lines.proofs.Slices.{lines-between, start-below}
use Rattle.omf_lines.proofs.sorted.lines_of_segment.Goals as goal

pub slice_bounds-result-count : goal.slice_bounds-result-count
slice_bounds-result-count c =
    let lines = c.args.lines.now in
    let t = c.args.segment in
    start-below lines t c.partition_point-start.result c.partition_point-end.result
    (IsPartitionPoint-from_clause (λ (l : Line). ltb l.segment t) lines _ c.partition_point-start.ensures.partitioned
    (IsPartitionedBy-ltb (λ (l : Line). l.segment) lines t c.requires) (λ a r f' k. (search rules, search rules)))
    (IsPartitionPoint-from_clause (λ (l : Line). leb l.segment t) lines _ c.partition_point-end.ensures.partitioned
    (IsPartitionedBy-leb (λ (l : Line). l.segment) lines t c.requires) (λ a r f' k. (search rules, search rules)))
    c.partition_point-start.ensures.bound

pub slice_bounds-result-start : goal.slice_bounds-result-start
slice_bounds-result-start c = slice_bounds-result-count c

pub returns : goal.returns
returns c =
    let lines = c.args.lines.now in
    let t = c.args.segment in
    lines-between lines t c.partition_point-start.result c.partition_point-end.result
    (IsPartitionPoint-from_clause (λ (l : Line). ltb l.segment t) lines _ c.partition_point-start.ensures.partitioned
    (IsPartitionedBy-ltb (λ (l : Line). l.segment) lines t c.requires) (λ a r f' k. (search rules, search rules)))
    (IsPartitionPoint-from_clause (λ (l : Line). leb l.segment t) lines _ c.partition_point-end.ensures.partitioned
    (IsPartitionedBy-leb (λ (l : Line). l.segment) lines t c.requires) (λ a r f' k. (search rules, search rules)))
    c.partition_point-start.ensures.bound c.partition_point-end.ensures.bound
