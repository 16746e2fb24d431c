-- Lists to which the elements of another are added one after the other, as they are or changed.
use Rattle.std.proofs.Common.{◌≡◌, ℕ, ◌+◌, List, [], ◌∷◌, ◌++◌, map, take, Some, sym, ap, ◌∙◌}
use Rattle.std.proofs.Common.{append_assoc, subst}
use Rattle.std.specs.Prelude.{All}
use Rattle.std.proofs.lemmas.List.Elements.{All-get_or}
use Rattle.std.specs.List.{slice_get}
use Rattle.std.proofs.lemmas.List.{take_more, map_more}
use Rattle.std.proofs.lemmas.Option.{slice_get_within, get_or_from_slice_get}

-- one more of another list
pub pushed_more : {X : Type 0} (old xs : List X) (i : ℕ) (x : X) → slice_get xs i ≡ Some x
    → (old ++ take i xs) ++ x ∷ [] ≡ old ++ take (i + 1) xs
pushed_more old xs i x e =
    append_assoc old (take i xs) (x ∷ [])
    ∙ ap (λ ys. old ++ ys)
    (ap (λ y. take i xs ++ y ∷ []) (sym (get_or_from_slice_get xs i x x e))
    ∙ sym (take_more xs i x (slice_get_within xs i x e)))

-- one more of what those of another list become
pub mapped_more : {X Y : Type 0} (f : X → Y) (old : List Y) (xs : List X) (i : ℕ) (x : X) → slice_get xs i ≡ Some x
    → (old ++ map f (take i xs)) ++ f x ∷ [] ≡ old ++ map f (take (i + 1) xs)
mapped_more f old xs i x e =
    append_assoc old (map f (take i xs)) (f x ∷ [])
    ∙ ap (λ ys. old ++ ys)
    (ap (λ y. map f (take i xs) ++ f y ∷ []) (sym (get_or_from_slice_get xs i x x e))
    ∙ sym (map_more f xs i x (slice_get_within xs i x e)))

-- what all are, one of them is
pub fits_at : {X : Type 0} (P : X → Type 0) (xs : List X) (i : ℕ) (x : X) → All P xs → slice_get xs i ≡ Some x → P x
fits_at P xs i x h e =
    subst P (get_or_from_slice_get xs i x x e) (All-get_or P xs i x (slice_get_within xs i x e) h)
