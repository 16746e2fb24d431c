use Rattle.std.proofs.Common.{◌≡◌, ◌∙◌, ◌+◌, ◌<◌, ℕ, List, map, fold, min, drop, length, slice_get, Some, All, sym}
use Rattle.std.proofs.Common.{ap}
use Rattle.std.proofs.Common.{arith, refl}
use Rattle.std.proofs.lemmas.Bool.{eqb-true, eqb-false}
use Rattle.omf_module.specs.Module.{DataRecord, Module}
use Rattle.omf_module.specs.Seen.{data_seen}
use Rattle.omf_place.specs.Layout.{Layout}
use Rattle.omf_image.specs.Records.{entry_start, bytes_of}
use Rattle.omf_image.specs.inside.Entries.{DataEntry, module_entries}
use Rattle.omf_image.specs.inside.Ready.{IsEntryReady}
use Rattle.omf_image.proofs.Meaning.{second_of_zip}
use Rattle.omf_image.proofs.Listing.{entry_of, all_at, entry_next}
use Rattle.flat_file.specs.Covered.{entry_first, memory_len}
use Rattle.flat_file.proofs.Covering.{first_none, first_some}
use Rattle.flat_file.proofs.covered.first_with.Goals as goal
use Rattle.flat_file.proofs.covered.first_with.Goals.{then-not-is_empty, else-not-is_empty}

ready_at : (layout : Layout) (n : ℕ) (m : Module) (i : ℕ) (d : DataRecord)
    → All (IsEntryReady layout) (module_entries n m) → i < length m.data_records → slice_get m.data_records i ≡ Some d
    → IsEntryReady layout (entry_of n m d)
ready_at layout n m i d ready l e = all_at (IsEntryReady layout) (entry_of n m) m.data_records i d ready l e

-- one record further
step : (layout : Layout) (n : ℕ) (m : Module) (i : ℕ) (d : DataRecord) (first : ℕ) → i < length m.data_records
    → slice_get m.data_records i ≡ Some d
    → fold min first (map (entry_first layout) (drop i (module_entries n m)))
    ≡ fold min (min first (entry_first layout (entry_of n m d)))
    (map (entry_first layout) (drop (i + 1) (module_entries n m)))
step layout n m i d first l e =
    ap (λ (es : List DataEntry). fold min first (map (entry_first layout) es)) (entry_next n m i d l e)

pub data_address-start-requires-clause-input : goal.data_address-start-requires-clause-input
data_address-start-requires-clause-input g c =
    (ready_at c.args.layout.now c.args.input c.args.module.now c.loop-index.index
    (data_seen c.data_record-data_record.result) c.requires.ready
    (omega (arith, c.loop-index-test.true, c.data_record_count-index-end.ensures))
    c.data_record-data_record.ensures.seen).input

pub data_address-start-requires-clause-segment : goal.data_address-start-requires-clause-segment
data_address-start-requires-clause-segment g c =
    (ready_at c.args.layout.now c.args.input c.args.module.now c.loop-index.index
    (data_seen c.data_record-data_record.result) c.requires.ready
    (omega (arith, c.loop-index-test.true, c.data_record_count-index-end.ensures))
    c.data_record-data_record.ensures.seen).segment

pub data_address-start-requires-clause-inside : goal.data_address-start-requires-clause-inside
data_address-start-requires-clause-inside g c =
    let r =
    ready_at c.args.layout.now c.args.input c.args.module.now c.loop-index.index
    (data_seen c.data_record-data_record.result) c.requires.ready
    (omega (arith, c.loop-index-test.true, c.data_record_count-index-end.ensures))
    c.data_record-data_record.ensures.seen in
    omega (arith, r.inside)

pub loop-index-init : goal.loop-index-init
loop-index-init g c = record { below = c.requires.below; first = refl }

pub loop-index-preserved : goal.loop-index-preserved
loop-index-preserved g c =
    let d = c.data_record-data_record.result in
    let layout = c.args.layout.now in
    let m = c.args.module.now in
    let e : DataEntry = entry_of c.args.input m (data_seen d) in
    let i = c.loop-index.index in
    let rest = map (entry_first layout) (drop (i + 1) (module_entries c.args.input m)) in
    let bytes : length (bytes_of e.item) ≡ length d.bytes.now =
    ap length (second_of_zip d.places.now d.bytes.now (sym c.data_record-data_record.ensures.lengths)) in
    let next =
    step layout c.args.input m i (data_seen d) c.loop-index.first
    (omega (arith, c.loop-index-test.true, c.data_record_count-index-end.ensures))
    c.data_record-data_record.ensures.seen in
    elim c.if-not-is_empty.branch [
      | then-not-is_empty w ↦
          let some : entry_first layout e ≡ entry_start layout e =
          first_some (entry_start layout e) (length (bytes_of e.item))
          (omega (arith, bytes, eqb-false (length d.bytes.now) 0 (sym c.is_empty.ensures ∙ w.if-not-is_empty.true))) in
          let first : w.min-first.result ≡ min c.loop-index.first (entry_first layout e) =
          omega (arith, w.min-first.ensures, w.data_address-start.ensures, some) in
          record {
            below = omega (arith, w.first-is, first, c.loop-index.invariant.below);
            first =
                ap (λ (n : ℕ). fold min n rest) (w.first-is ∙ first) ∙ sym next ∙ c.loop-index.invariant.first;
          }
      | else-not-is_empty w ↦
          let none : entry_first layout e ≡ memory_len =
          first_none (entry_start layout e) (length (bytes_of e.item))
          (bytes ∙ eqb-true (length d.bytes.now) 0 (sym c.is_empty.ensures ∙ w.if-not-is_empty.false)) in
          let first : c.loop-index.first ≡ min c.loop-index.first (entry_first layout e) =
          omega (arith, none, c.loop-index.invariant.below) in
          record {
            below = omega (arith, w.first-is, c.loop-index.invariant.below);
            first =
                ap (λ (n : ℕ). fold min n rest) (w.first-is ∙ first) ∙ sym next ∙ c.loop-index.invariant.first;
          }
    ]
