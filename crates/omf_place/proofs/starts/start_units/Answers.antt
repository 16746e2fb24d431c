use Rattle.std.proofs.Common.{◌∙◌}
use Rattle.omf_place.proofs.starts.start_units.Goals as goal

pub place_units-size-requires-clause-order : goal.place_units-size-requires-clause-order
place_units-size-requires-clause-order g c = c.requires.order

pub place_units-size-requires-clause-numbered : goal.place_units-size-requires-clause-numbered
place_units-size-requires-clause-numbered g c = c.requires.numbered

pub place_units-size-requires-clause-measures : goal.place_units-size-requires-clause-measures
place_units-size-requires-clause-measures g c = c.deref.ensures.value ∙ c.in_ok-measures.ensures

pub place_units-size-requires-clause-bounds : goal.place_units-size-requires-clause-bounds
place_units-size-requires-clause-bounds g c = c.requires.bounds
