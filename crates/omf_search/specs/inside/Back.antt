-- How a search goes back for what another member offers, and what it finds.
use Rattle.std.specs.Prelude.{◌≡◌, ℕ, Bool, not, ◌&&◌, List, None, Some, find, take}
use Rattle.std.specs.declared.option.Option.{Option}
use Rattle.std.specs.List.{list_any}
use Rattle.omf_place.specs.Names.{agrees}
use Rattle.omf_place.specs.declared.names.Names.{Names}
use Rattle.omf_search.specs.declared.searching.Found.{Found}
use Rattle.omf_search.specs.declared.searching.Search.{Search}
use Rattle.omf_search.specs.Said.{Module, Wanted, is_defined}
use Rattle.omf_search.specs.Search.{Member, next_choice, takes}
use Rattle.omf_search.specs.Searching.{HasFirst, IsSearch, choice_found}
use Rattle.omf_search.specs.Wanted.{wanted_names}

-- a wanted name is one of these, and no module defines it
abbrev pub is_open : Names → List Module → (offered : List (List ℕ)) → Wanted → Bool
is_open names ms offered w = not (is_defined names ms w.name) && list_any (agrees names w.name) offered

-- a search looks again at these names too, which a member offers, where no module defines them
pub record LooksAgain {A : Type 0} (names : Names) (ms : List Module) (bs : List Member) (offered : List (List ℕ))
    (s : Search A) : Type 0 where
  pub is : IsSearch names ms bs s
  pub too : HasFirst names (is_open names ms offered) (wanted_names names ms) s.next s.back

-- none of so many wanted names takes a member
abbrev pub IsSettled : Names → List Module → List Member → (many : ℕ) → Type 0
IsSettled names ms bs many = find (takes names bs ms) (take many (wanted_names names ms)) ≡ None

-- what is found is what modules take next; where it is nothing, none of so many wanted names takes a member
abbrev pub IsFound : Names → List Module → List Member → (many : ℕ) → Option Found → Type 0
IsFound names ms bs many None = IsSettled names ms bs many
IsFound names ms bs many (Some f) = choice_found bs (Some f) ≡ next_choice names bs ms
