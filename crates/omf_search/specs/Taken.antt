-- What the modules that a link takes want and define, as the code holds it.
use Rattle.std.specs.Prelude.{◌≡◌, ℕ, List, is_some, length, map}
use Rattle.std.specs.Borrow.{Bor}
use Rattle.std.specs.Option.{option_map}
use Rattle.omf_place.specs.declared.names.Names.{Names}
use Rattle.omf_search.specs.declared.meeting.Meeting.{Meeting}
use Rattle.omf_search.specs.declared.taken.Taken.{Taken}
use Rattle.omf_search.specs.Keys.{size, value_of}
use Rattle.omf_search.specs.Results.{wanted_said}
use Rattle.omf_search.specs.Said.{Module, is_defined}
use Rattle.omf_search.specs.Wanted.{Met, is_asked, met, stands_for}

-- what was met
pub record IsMet {A : Type 0} (names : Names) (s : Met) (m : Meeting A) : Type 0 where
  pub wanted : map wanted_said m.wanted.items ≡ s.wanted
  pub asked : (q : Bor (List ℕ)) → is_some (value_of names m.asked q) ≡ is_asked names s q.now
  pub aliases : (q : Bor (List ℕ)) → option_map wanted_said (value_of names m.aliases q) ≡ stands_for names s q.now
  pub count : size m.aliases ≡ length s.aliases

-- the modules, with what they want and define
pub record IsTaken {A : Type 0} (names : Names) (ms : List Module) (t : Taken A) : Type 0 where
  pub met : IsMet names (met names ms) t.meeting
  pub defined : (q : Bor (List ℕ)) → is_some (value_of names t.defined q) ≡ is_defined names ms q.now
