use Rattle.std.proofs.Common.{◌≡◌, ◌≤◌, map}
use Rattle.omf_library.specs.Members.{joined}
use Rattle.omf_communal.specs.Deciding.{variable_said}
use Rattle.omf_communal.specs.Plan.{near_end, near_places}
use Rattle.omf_communal.specs.inside.Planned.{places_said, room_said}
use Rattle.omf_communal.proofs.Laying.{left}
use Rattle.omf_communal.proofs.planning.near_places.Given as goal

abbrev pub invariant-loop-index : goal.invariant-loop-index
invariant-loop-index g l = record {
  small : l.end ≤ 65536;
  all : joined (places_said l.places.items) (near_places (room_said l.fn.room) l.end l.index (left l.variables l.index))
      ≡ near_places (room_said l.fn.room) 0 0 (map variable_said l.variables);
  ends : near_end l.end (left l.variables l.index) ≡ near_end 0 (map variable_said l.variables);
}
