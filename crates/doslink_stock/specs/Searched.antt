-- What a stock holds once it was given rounds of files.
use Rattle.std.specs.Prelude.{◌≡◌, ℕ, List, map}
use Rattle.omf_place.specs.declared.names.Names.{Names}
use Rattle.omf_search.specs.Searching.{IsSearch}
use Rattle.doslink_stock.specs.declared.searching.Stock.{Stock}
use Rattle.doslink_stock.specs.Placed.{ArePlaced}
use Rattle.doslink_stock.specs.Search.{GoesOn, Standing, candidates, nothing, says_of}
use Rattle.doslink_stock.specs.Seen.{entry_held}

-- a stock holds what stands after some rounds
pub record IsStock {A : Type 0} (names : Names) (s : Standing) (stock : Stock A) : Type 0 where
  pub files : stock.files ≡ s.files
  pub members : map entry_held stock.members.items ≡ s.members
  pub placed : ArePlaced (map entry_held stock.objects.items) s.members stock.linked.items s.taken
  pub search : IsSearch names (says_of s.taken) (candidates s.members) stock.search

-- it was given these rounds, and the search went on with each
abbrev pub Searched : {A : Type 0} → Names → (rounds : List (List (List ℕ))) → Stock A → Type 0
Searched names rounds stock = (s : Standing) × GoesOn names nothing rounds s × IsStock names s stock
