-- A round of files that is added to a stock.
use Rattle.std.proofs.Common.{◌≡◌, ℕ, ◌+◌, List, [], ◌∷◌, ◌++◌, length, map, refl, Ok}
use Rattle.std.specs.List.{filter_map}
use Rattle.omf_place.specs.declared.names.Names.{Names}
use Rattle.omf_search.specs.Search.{Choice, Chooses}
use Rattle.doslink_stock.specs.declared.searching.Stock.{Stock}
use Rattle.doslink_stock.specs.Files.{Held, members_from}
use Rattle.doslink_stock.specs.inside.Linked.{AreLinked}
use Rattle.doslink_stock.specs.Search.{Goes, GoesOn, Standing, candidates, member_taken, nothing, says_of, with_objects}
use Rattle.doslink_stock.specs.Searched.{Searched}
use Rattle.doslink_stock.specs.Seen.{entry_held}
use Rattle.doslink_stock.proofs.Rounds.{goes-push}

pub stock-added : {A : Type 0} (names : Names) (rounds : List (List (List ℕ))) (more : List (List ℕ)) (s : Standing)
    (new : Stock A) (found : List Held) (choices : List Choice) → GoesOn names nothing rounds s
    → members_from s.files more ≡ Ok found → new.files ≡ s.files + length more
    → map entry_held new.members.items ≡ s.members ++ found
    → Chooses names (candidates (s.members ++ found)) (says_of (with_objects more s)) choices
    → AreLinked names (map entry_held new.objects.items) (s.members ++ found) (candidates (s.members ++ found))
    (with_objects more s ++ filter_map (member_taken (s.members ++ found)) choices) new.search new.linked.items
    → Searched names (rounds ++ more ∷ []) new
stock-added names rounds more s new found choices goes are counts members chooses linked =
    let t : Standing =
    record {
      files = new.files;
      members = s.members ++ found;
      taken = with_objects more s ++ filter_map (member_taken (s.members ++ found)) choices;
    } in
    let one : Goes names more s t =
    record {
      more = found;
      choices = choices;
      are_members = are;
      chooses = chooses;
      counted = counts;
      members = refl;
      taken = refl;
    } in (
      t,
      goes-push names rounds more nothing s t goes one,
      record {
        files = refl;
        members = members;
        placed = linked.placed;
        search = linked.searched;
      },
    )
