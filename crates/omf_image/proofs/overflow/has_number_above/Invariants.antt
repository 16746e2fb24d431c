use Rattle.std.proofs.Common.{◌≡◌, ◌-◌, length}
use Rattle.std.specs.List.{list_any, range_with_len}
use Rattle.omf_image.proofs.Overflowing.{above_at}
use Rattle.omf_image.proofs.overflow.has_number_above.Given as goal

abbrev pub invariant-loop-at : goal.invariant-loop-at
invariant-loop-at l =
    let places = l.data_record.places.now in
    let bytes = l.data_record.bytes.now in
    list_any (above_at l.resolved l.offset places bytes) (range_with_len l.at (length places - l.at))
    ≡ list_any (above_at l.resolved l.offset places bytes) (range_with_len 0 (length places))
