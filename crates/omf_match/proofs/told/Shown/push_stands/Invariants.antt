use Rattle.std.proofs.Common.{◌≡◌, ◌++◌, drop}
use Rattle.std.specs.List.{flat_map}
use Rattle.omf_match.specs.Told.{stand_lines}
use Rattle.omf_match.proofs.told.Shown.push_stands.Given as goal

abbrev pub invariant-loop-stand : goal.invariant-loop-stand
invariant-loop-stand g l =
    let lines = stand_lines l.fn.self.from.now l.fn.self.image.now in
    l.lines.items ++ flat_map lines (drop l.stand-index l.fn.stands)
    ≡ l.initial.lines.items ++ flat_map lines l.fn.stands
