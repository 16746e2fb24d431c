use Rattle.std.proofs.Common.{◌≡◌, ◌∙◌, ◌+◌, ◌<◌, ℕ, List, map, fold, max, drop, length, slice_get, Some, All, sym, ap}
use Rattle.std.proofs.Common.{arith}
use Rattle.std.proofs.lemmas.Bool.{eqb-true, eqb-false}
use Rattle.omf_module.specs.Module.{DataRecord, Module}
use Rattle.omf_module.specs.Seen.{data_seen}
use Rattle.omf_place.specs.Layout.{Layout}
use Rattle.omf_image.specs.Records.{entry_start, entry_end, bytes_of}
use Rattle.omf_image.specs.inside.Entries.{DataEntry, module_entries}
use Rattle.omf_image.specs.inside.Ready.{IsEntryReady}
use Rattle.omf_image.proofs.Meaning.{second_of_zip}
use Rattle.omf_image.proofs.Listing.{entry_of, all_at, entry_next}
use Rattle.omf_image.proofs.Everywhere.{end_none, end_some}
use Rattle.omf_image.proofs.extent.end_with.Goals as goal
use Rattle.omf_image.proofs.extent.end_with.Goals.{then-not-is_empty, else-not-is_empty}

ready_at : (layout : Layout) (n : ℕ) (m : Module) (i : ℕ) (d : DataRecord)
    → All (IsEntryReady layout) (module_entries n m) → i < length m.data_records → slice_get m.data_records i ≡ Some d
    → IsEntryReady layout (entry_of n m d)
ready_at layout n m i d ready l e = all_at (IsEntryReady layout) (entry_of n m) m.data_records i d ready l e

-- one record further
step : (layout : Layout) (n : ℕ) (m : Module) (i : ℕ) (d : DataRecord) (end : ℕ) → i < length m.data_records
    → slice_get m.data_records i ≡ Some d
    → fold max end (map (entry_end layout) (drop i (module_entries n m)))
    ≡ fold max (max end (entry_end layout (entry_of n m d)))
    (map (entry_end layout) (drop (i + 1) (module_entries n m)))
step layout n m i d end l e =
    ap (λ (es : List DataEntry). fold max end (map (entry_end layout) es)) (entry_next n m i d l e)

pub data_address-start-requires-clause-input : goal.data_address-start-requires-clause-input
data_address-start-requires-clause-input g c =
    (ready_at c.args.layout.now c.args.input c.args.module.now c.loop-index.index
    (data_seen c.data_record-data_record.result) c.requires.ready
    (omega (arith, c.loop-index-test.true, c.data_record_count-index-end.ensures))
    c.data_record-data_record.ensures.seen).input

pub data_address-start-requires-clause-segment : goal.data_address-start-requires-clause-segment
data_address-start-requires-clause-segment g c =
    (ready_at c.args.layout.now c.args.input c.args.module.now c.loop-index.index
    (data_seen c.data_record-data_record.result) c.requires.ready
    (omega (arith, c.loop-index-test.true, c.data_record_count-index-end.ensures))
    c.data_record-data_record.ensures.seen).segment

pub data_address-start-requires-clause-inside : goal.data_address-start-requires-clause-inside
data_address-start-requires-clause-inside g c =
    let r =
    ready_at c.args.layout.now c.args.input c.args.module.now c.loop-index.index
    (data_seen c.data_record-data_record.result) c.requires.ready
    (omega (arith, c.loop-index-test.true, c.data_record_count-index-end.ensures))
    c.data_record-data_record.ensures.seen in
    omega (arith, r.inside)

pub overflow_cast-data_record : goal.overflow_cast-data_record
overflow_cast-data_record g c =
    let d = c.data_record-data_record.result in
    let r = ready_at c.args.layout.now c.args.input c.args.module.now c.loop-index.index (data_seen d) c.requires.ready
    (omega (arith, c.loop-index-test.true, c.data_record_count-index-end.ensures))
    c.data_record-data_record.ensures.seen in
    omega (
      arith,
      r.inside,
      ap length (second_of_zip d.places.now d.bytes.now (sym c.data_record-data_record.ensures.lengths)),
      c.requires.small,
    )

pub overflow_add-start : goal.overflow_add-start
overflow_add-start g c =
    let d = c.data_record-data_record.result in
    let r = ready_at c.args.layout.now c.args.input c.args.module.now c.loop-index.index (data_seen d) c.requires.ready
    (omega (arith, c.loop-index-test.true, c.data_record_count-index-end.ensures))
    c.data_record-data_record.ensures.seen in
    omega (
      arith,
      r.inside,
      c.data_address-start.ensures,
      ap length (second_of_zip d.places.now d.bytes.now (sym c.data_record-data_record.ensures.lengths)),
      c.requires.small,
    )

pub loop-index-preserved : goal.loop-index-preserved
loop-index-preserved g c =
    let d = c.data_record-data_record.result in
    let layout = c.args.layout.now in
    let m = c.args.module.now in
    let e : DataEntry = entry_of c.args.input m (data_seen d) in
    let i = c.loop-index.index in
    let rest = map (entry_end layout) (drop (i + 1) (module_entries c.args.input m)) in
    let bytes : length (bytes_of e.item) ≡ length d.bytes.now =
    ap length (second_of_zip d.places.now d.bytes.now (sym c.data_record-data_record.ensures.lengths)) in
    let next =
    step layout c.args.input m i (data_seen d) c.loop-index.end
    (omega (arith, c.loop-index-test.true, c.data_record_count-index-end.ensures))
    c.data_record-data_record.ensures.seen in
    elim c.if-not-is_empty.branch [
      | then-not-is_empty w ↦
          let some : entry_end layout e ≡ entry_start layout e + length (bytes_of e.item) =
          end_some (entry_start layout e) (length (bytes_of e.item))
          (omega (arith, bytes, eqb-false (length d.bytes.now) 0 (sym c.is_empty.ensures ∙ w.if-not-is_empty.true))) in
          let end : w.max-end.result ≡ max c.loop-index.end (entry_end layout e) =
          omega (arith, w.max-end.ensures, w.data_address-start.ensures, some, bytes) in
          ap (λ (n : ℕ). fold max n rest) (w.end-is ∙ end) ∙ sym next ∙ c.loop-index.invariant
      | else-not-is_empty w ↦
          let none : entry_end layout e ≡ 0 =
          end_none (entry_start layout e) (length (bytes_of e.item))
          (bytes ∙ eqb-true (length d.bytes.now) 0 (sym c.is_empty.ensures ∙ w.if-not-is_empty.false)) in
          let end : c.loop-index.end ≡ max c.loop-index.end (entry_end layout e) = omega (arith, none) in
          ap (λ (n : ℕ). fold max n rest) (w.end-is ∙ end) ∙ sym next ∙ c.loop-index.invariant
    ]
