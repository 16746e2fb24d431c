-- Places of segments, by what modules promise.
use Rattle.std.specs.Prelude.{ℕ, ◌<◌, List, length}
use Rattle.omf_module.specs.Module.{Module}
use Rattle.omf_match.specs.declared.finding.Stand.{Stand}

-- the segment is one of the module, and it begins in the image
abbrev pub IsInside : Module → (image : List ℕ) → Stand → Type 0
IsInside m image stand = (stand.segment < length m.segments) × (stand.place < length image)
