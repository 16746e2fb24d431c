use Rattle.std.proofs.Common.{◌≤◌, length, arith}
use Rattle.omf_module.specs.Seen.{data_seen}
use Rattle.omf_match.specs.Told.{record_lines}
use Rattle.omf_match.proofs.Laying.{data-short, zip-length}
use Rattle.omf_match.proofs.Texts.{seen-more, all-done}
use Rattle.omf_match.proofs.told.Shown.push_records.Goals as goal

pub push_record-requires-clause-small : goal.push_record-requires-clause-small
push_record-requires-clause-small g c =
    let m = c.args.self.now.from.now in
    let found = c.data_record.result in
    let short = data-short m c.loop-index.index (data_seen found) c.promises.ensures c.data_record.ensures.seen in
    let len = zip-length found.places.now found.bytes.now c.data_record.ensures.lengths in
    omega (arith, short, len)

pub loop-index-preserved : goal.loop-index-preserved
loop-index-preserved g c =
    let m = c.args.self.now.from.now in
    seen-more (record_lines m c.args.self.now.image.now c.args.place c.args.segment) m.data_records c.loop-index.index
    (data_seen c.data_record.result) c.loop-index.lines.items _ _ c.data_record.ensures.seen
    c.in_ok-push_record.ensures c.loop-index.invariant

pub returns : goal.returns
returns g c =
    let m = c.args.self.now.from.now in
    let none : length m.data_records ≤ c.loop-index.index =
    omega (arith, c.loop-index-test.false, c.data_record_count-index-end.ensures) in
    all-done (record_lines m c.args.self.now.image.now c.args.place c.args.segment) m.data_records c.loop-index.index
    c.loop-index.lines.items _ none c.loop-index.invariant
