use Rattle.std.proofs.Common.{◌≡◌, ◌++◌, drop}
use Rattle.std.specs.List.{flat_map}
use Rattle.omf_match.specs.Told.{record_lines}
use Rattle.omf_match.proofs.told.Shown.push_records.Given as goal

abbrev pub invariant-loop-index : goal.invariant-loop-index
invariant-loop-index g l =
    let lines = record_lines l.fn.self.from.now l.fn.self.image.now l.fn.place l.fn.segment in
    l.lines.items ++ flat_map lines (drop l.index l.fn.self.from.now.data_records)
    ≡ l.initial.lines.items ++ flat_map lines l.fn.self.from.now.data_records
