-- The places of a module's segments as the code fills them in.
use Rattle.std.specs.Prelude.{List, [], ◌∷◌}
use Rattle.omf_place.specs.declared.layout.Position.{Position}
use Rattle.omf_place.specs.declared.stands.Stand.{Stand}
use Rattle.omf_place.specs.Parts.{Site}
use Rattle.omf_place.specs.inside.Stands.{placed_by}

-- each segment with its stand
abbrev pub placed_row : List Site → List Stand → List Position
placed_row [] ss = []
placed_row (a ∷ as') [] = []
placed_row (a ∷ as') (s ∷ ss) = placed_by a.segment.standing s ∷ placed_row as' ss
