-- Lines in the order of their segments.
use Rattle.std.specs.Prelude.{◌≡◌, ℕ, List, filter}
use Rattle.std.specs.List.Sorted.{IsNonDecreasingBy}
use Rattle.omf_lines.specs.Lines.{is_of}
use Rattle.omf_lines.specs.declared.line.Line.{Line}

-- no line's segment has a lesser index than that of a line before it
abbrev pub Rise : List Line → Type 0
Rise lines = IsNonDecreasingBy (λ (line : Line). line.segment) lines

-- these are lines in the order of their segments: those of each segment are the same, as they came
abbrev pub AreBySegment : (lines sorted : List Line) → Type 0
AreBySegment lines sorted =
    Rise sorted × ((segment : ℕ) → filter (is_of segment) sorted ≡ filter (is_of segment) lines)
