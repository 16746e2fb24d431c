use Rattle.std.proofs.Common.{◌≡◌, ◌+◌, None, Some, length, nat_lt, sym, ap, ◌∙◌, arith}
use Rattle.omf_module.specs.Lengths.{passes_end}
use Rattle.omf_module.specs.Seen.{segment_seen, data_seen}
use Rattle.std.specs.List.{zip, slice_get}
use Rattle.std.proofs.lemmas.Option.{slice_get_past}
use Rattle.std.proofs.lemmas.Slice.Zip.{length-zip}
use Rattle.omf_module.proofs.lengths.is_outside.Goals as goal

pub returns-then-index-segment_count : goal.returns-then-index-segment_count
returns-then-index-segment_count g c =
    let d = c.args.data in
    let count : length (zip d.places.now d.bytes.now) ≡ length d.bytes.now =
    omega (arith, length-zip d.places.now d.bytes.now, c.requires) in
    let ss = c.args.store.now.segments in
    let s = segment_seen c.segment.result in
    let found : slice_get ss d.segment ≡ Some s = ap (slice_get ss) (sym c.from-index.ensures) ∙ c.segment.ensures in
    rw (c.from-then-index-segment_count.ensures, c.from.ensures)
    (ap (λ n. nat_lt s.length (d.offset + n)) (sym count) ∙ sym (ap (λ o. passes_end o (data_seen d)) found))

pub returns-else-index-segment_count : goal.returns-else-index-segment_count
returns-else-index-segment_count g c =
    let d = c.args.data in
    let ss = c.args.store.now.segments in
    let none : slice_get ss d.segment ≡ None = slice_get_past ss d.segment (omega arith) in
    sym (ap (λ o. passes_end o (data_seen d)) none)
