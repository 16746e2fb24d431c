-- What holds of the members that modules take.
use Rattle.std.specs.Prelude.{◌≡◌, false, List, ◌++◌, Some, Contains, map}
use Rattle.omf_place.specs.declared.names.Names.{Names}
use Rattle.omf_search.specs.Said.{Module, is_defined}
use Rattle.omf_search.specs.Search.{Choice, Member, first_offering}
use Rattle.omf_search.specs.Wanted.{wanted_names}

-- modules, and behind them the members that were taken
abbrev pub joined : List Module → List Choice → List Module
joined ms cs = ms ++ map (λ c. c.taken.says) cs

-- why a member joins modules: one of them wants the name, none defines it, and of all members it is the
-- first that offers it
pub record IsNeeded (names : Names) (members : List Member) (ms : List Module) (c : Choice) : Type 0 where
  pub wanted : Contains (wanted_names names ms) c.wanted
  pub missing : is_defined names ms c.wanted.name ≡ false
  pub first : first_offering names members c.wanted.name ≡ Some c.taken
