use Rattle.std.proofs.Common.{◌≡◌, ◌++◌, drop}
use Rattle.std.specs.List.{flat_map}
use Rattle.omf_match.specs.Told.{hit_lines}
use Rattle.omf_match.proofs.told.Shown.push_fixups.Given as goal

abbrev pub invariant-loop-fixup : goal.invariant-loop-fixup
invariant-loop-fixup g l =
    let lines = hit_lines l.fn.self.from.now l.fn.self.image.now l.fn.start l.fn.record.places.now in
    l.lines.items ++ flat_map lines (drop l.fixup-index l.fn.record.fixups.now)
    ≡ l.initial.lines.items ++ flat_map lines l.fn.record.fixups.now
