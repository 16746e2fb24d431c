use Rattle.std.proofs.Common.{◌+◌, ◌≤◌, ◌∙◌, ap, arith, sym, length, fold, drop, Option}
use Rattle.std.specs.Option.{option_map_or}
use Rattle.std.proofs.lemmas.List.{drop_all}
use Rattle.omf_module.specs.Seen.{data_seen, segment_seen}
use Rattle.omf_module.specs.Module.{Segment}
use Rattle.omf_module.proofs.Lists.{drop_at_some}
use Rattle.omf_match.specs.Pattern.{laid_in, pattern_of}
use Rattle.omf_match.proofs.Laying.{data-inside, laid_in-length, zip-length}
use Rattle.omf_match.proofs.pattern.pattern_of.Goals as goal

pub lay_of_segment-requires-clause-inside : goal.lay_of_segment-requires-clause-inside
lay_of_segment-requires-clause-inside g c same =
    let inside = data-inside c.args.from.now c.loop-index.index c.args.segment (data_seen c.data_record.result)
    (segment_seen c.segment.result) c.promises.ensures c.data_record.ensures.seen c.segment.ensures same in
    let len = zip-length c.data_record.result.places.now c.data_record.result.bytes.now c.data_record.ensures.lengths in
    let whole = ap (λ (o : Option Segment). option_map_or (λ s. s.length) o 0) c.segment.ensures in
    omega (arith, inside, len, whole, c.loop-index.invariant.len)

pub loop-index-preserved : goal.loop-index-preserved
loop-index-preserved g c =
    let m = c.args.from.now in
    let segment = c.args.segment in
    let data' = data_seen c.data_record.result in
    let cells = c.loop-index.cells.items in
    let whole = ap (λ (o : Option Segment). option_map_or (λ s. s.length) o 0) c.segment.ensures in
    let added = c.in_ok-lay_of_segment.ensures in
    record {
      len = ap length added ∙ laid_in-length segment cells data'
          (λ same. let inside = data-inside m c.loop-index.index segment data' (segment_seen c.segment.result)
          c.promises.ensures c.data_record.ensures.seen c.segment.ensures same in
          omega (arith, inside, whole, c.loop-index.invariant.len)) ∙ c.loop-index.invariant.len;
      laid = ap (λ l. fold (laid_in segment) l (drop (c.loop-index.index + 1) m.data_records)) added
          ∙ ap (fold (laid_in segment) cells) (sym (drop_at_some m.data_records c.loop-index.index data'
          c.data_record.ensures.seen)) ∙ c.loop-index.invariant.laid;
    }

pub returns : goal.returns
unfolding pattern_of
returns g c =
    let m = c.args.from.now in
    let none : length m.data_records ≤ c.loop-index.index =
    omega (arith, c.loop-index-test.false, c.data_record_count-index-end.ensures) in
    ap (fold (laid_in c.args.segment) c.loop-index.cells.items) (sym (drop_all c.loop-index.index m.data_records none))
    ∙ c.loop-index.invariant.laid
