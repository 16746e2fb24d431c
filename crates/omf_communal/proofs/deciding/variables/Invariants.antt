use Rattle.std.proofs.Common.{◌≡◌, [], map}
use Rattle.omf_communal.specs.Deciding.{met, variable_said}
use Rattle.omf_communal.specs.inside.Met.{IsMet, declared_said}
use Rattle.omf_communal.proofs.Meeting.{declarations_left}
use Rattle.omf_communal.proofs.deciding.variables.Given as goal

abbrev pub invariant-loop-declared : goal.invariant-loop-declared
invariant-loop-declared g l = record {
  places : IsMet l.fn.names l.met;
  all : met l.fn.names (map variable_said l.met.variables.items) (declarations_left l.declared-items l.declared-index)
      ≡ met l.fn.names [] (map declared_said l.declared-items);
}
