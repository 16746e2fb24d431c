-- Modules that are taken, as the code holds them.
use Rattle.std.specs.Prelude.{List}
use Rattle.omf_place.specs.declared.names.Names.{Names}
use Rattle.omf_search.specs.declared.searching.Search.{Search}
use Rattle.omf_search.specs.Search.{Member}
use Rattle.omf_search.specs.Searching.{IsSearch}
use Rattle.doslink_stock.specs.declared.searching.Place.{Place}
use Rattle.doslink_stock.specs.Placed.{ArePlaced}
use Rattle.doslink_stock.specs.Files.{Held}
use Rattle.doslink_stock.specs.Search.{TakenFor, says_of}

-- these are taken, and the search, among these members, is that of their names
pub record AreLinked {A : Type 0} (names : Names) (objects members : List Held) (bs : List Member)
    (taken : List TakenFor) (search : Search A) (linked : List Place) : Type 0 where
  pub searched : IsSearch names (says_of taken) bs search
  pub placed : ArePlaced objects members linked taken
