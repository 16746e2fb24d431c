-- What fits a record.
use Rattle.std.specs.Prelude.{ℕ, ◌≤◌, List, length}
use Rattle.omf_frame.specs.Primitives.{IsBytes}

-- at most 255 bytes
abbrev pub IsName : List ℕ → Type 0
IsName name = (length name ≤ 255) × IsBytes name
