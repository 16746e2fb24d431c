-- Names that go round for ever in no module, one module behind the other.
use Rattle.std.proofs.Common.{◌≡◌, ℕ, ◌+◌, ◌<◌, All, List, length, map, take, get_or, sym, subst}
use Rattle.std.proofs.lemmas.List.Elements.{All-push}
use Rattle.omf_library.proofs.Gathering.{map-turn}

-- the next one
pub all-turn : {X Y : Type 0} (P : Y → Type 0) (f : X → Y) (xs : List X) (i : ℕ) (x : X) → i < length xs
    → x ≡ get_or xs i x → All P (map f (take i xs)) → P (f x) → All P (map f (take (i + 1) xs))
all-turn P f xs i x h is before here =
    subst (All P) (sym (map-turn f xs i x h is)) (All-push P (map f (take i xs)) (f x) before here)
