-- What a search stands at, as the program holds it.
use Rattle.std.specs.Prelude.{◌≡◌, ◌<◌, ◌≤◌, ℕ, Bool, true, List, Some, length, slice_get}
use Rattle.std.specs.declared.option.Option.{Option}
use Rattle.std.specs.BTreeSet.{BTreeSet, contains}
use Rattle.std.specs.Borrow.{Bor}
use Rattle.std.specs.Ordering.{nat_cmp}
use Rattle.std.specs.Option.{option_and_then, option_map}
use Rattle.omf_place.specs.declared.names.Names.{Names}
use Rattle.omf_place.specs.Names.{agrees}
use Rattle.omf_search.specs.declared.name_map.NameMap.{NameMap}
use Rattle.omf_search.specs.declared.searching.Found.{Found}
use Rattle.omf_search.specs.declared.searching.Search.{Search}
use Rattle.omf_search.specs.Keys.{value_of}
use Rattle.omf_search.specs.Places.{place_from}
use Rattle.omf_search.specs.Taken.{IsTaken}
use Rattle.omf_search.specs.Said.{Module, Wanted, offers}
use Rattle.omf_search.specs.Search.{Choice, Member, takes}
use Rattle.omf_search.specs.Wanted.{wanted_names}

-- a map has for each name the place of the first of these wanted names that is it
abbrev pub HasPlaces : {A : Type 0} → Names → List Wanted → NameMap ℕ A → Type 0
HasPlaces names ws places =
    (q : Bor (List ℕ)) → value_of names places q ≡ place_from 0 (λ w. agrees names q.now w.name) ws

-- of each name that passes a test a set has the first place at which it is wanted, if that is before this one
abbrev pub HasFirst : Names → (test : Wanted → Bool) → List Wanted → (before : ℕ) → BTreeSet ℕ → Type 0
HasFirst names test ws before back =
    (w : Wanted) (p : ℕ) → test w ≡ true → place_from 0 (λ v. agrees names w.name v.name) ws ≡ Some p → p < before
    → contains nat_cmp back p ≡ true

-- these modules are linked, and these members may be taken, in the order in which they were added; of the names wanted
-- before the next place, those that take a member are looked at again
pub record IsSearch {A : Type 0} (names : Names) (ms : List Module) (bs : List Member) (s : Search A) : Type 0 where
  pub by : s.names ≡ names
  pub taken : IsTaken names ms s.taken
  pub places : HasPlaces names (wanted_names names ms) s.places
  pub offered : (q : Bor (List ℕ)) → value_of names s.offers q ≡ place_from 0 (λ b. offers names q.now b.says) bs
  pub within : s.next ≤ length (wanted_names names ms)
  pub again : HasFirst names (takes names bs ms) (wanted_names names ms) s.next s.back
  pub behind : (p : ℕ) → contains nat_cmp s.back p ≡ true → p < s.next

-- a member that is found for a name, of these
abbrev pub choice_of : List Member → Found → Option Choice
choice_of bs f = option_map
    (λ b. record { wanted = record { name = f.name.now; wanted_by = f.wanted_by }; taken = b }) (slice_get bs f.member)

abbrev pub choice_found : List Member → Option Found → Option Choice
choice_found bs f = option_and_then (choice_of bs) f
