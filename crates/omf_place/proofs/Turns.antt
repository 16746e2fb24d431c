-- The item that a turn of a loop looks at.
use Rattle.std.proofs.Common.{◌≡◌, ℕ, ◌<◌, List, length, get_or, subst, sym}
use Rattle.std.specs.List.{AllByRecursion}
use Rattle.omf_place.proofs.GreatestAt.{All-at}

-- what holds of all holds of it
pub at_turn : {X : Type 0} (P : X → Type 0) (xs items : List X) (i : ℕ) (x : X) → items ≡ xs → AllByRecursion P xs
    → i < length items → x ≡ get_or items i x → P x
at_turn P xs items i x same all within is =
    subst P (sym is) (All-at P items i x (subst (AllByRecursion P) (sym same) all) within)
