use Rattle.std.proofs.Common.{◌≡◌, ◌++◌, ◌<◌, ◌≤◌, map}
use Rattle.omf_library.specs.Members.{joined}
use Rattle.omf_communal.specs.Deciding.{variable_said}
use Rattle.omf_communal.specs.Plan.{far_lengths, far_places}
use Rattle.omf_communal.specs.inside.Planned.{parts_said, places_said}
use Rattle.omf_communal.proofs.Laying.{left}
use Rattle.omf_communal.proofs.planning.far_places.Given as goal

abbrev pub invariant-loop-index : goal.invariant-loop-index
invariant-loop-index g l = record {
  positive : 0 < l.segment;
  small : l.segment ≤ 32768;
  all : joined (places_said l.fars.places.items) (far_places l.segment l.index (left l.variables l.index))
      ≡ far_places l.first 0 (map variable_said l.variables);
  parts : parts_said l.fars.parts.items ++ far_lengths (left l.variables l.index)
      ≡ far_lengths (map variable_said l.variables);
}
