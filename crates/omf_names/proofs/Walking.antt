-- What the items of a list make, one behind the other.
use Rattle.std.proofs.Common.{◌≡◌, ℕ, ◌+◌, ◌<◌, ◌≤◌, List, [], ◌++◌, length, map, drop}
use Rattle.std.proofs.Common.{get_or, sym, ap, ◌∙◌, append_assoc, append-nil}
use Rattle.std.proofs.Math.ListN.{drop_of_length-le}
use Rattle.std.proofs.lemmas.List.{drop_more}
use Rattle.std.specs.List.{flat_map}

-- what one item makes was appended
pub all-more : {X Y Z : Type 0} (view : X → Y) (f : Y → List Z) (xs : List X) (i : ℕ) (d : X) (old new goal : List Z)
    → i < length xs → new ≡ old ++ f (view (get_or xs i d))
    → old ++ flat_map f (map view (drop i xs)) ≡ goal → new ++ flat_map f (map view (drop (i + 1) xs)) ≡ goal
all-more view f xs i d old new goal h added before =
    ap (λ l. l ++ flat_map f (map view (drop (i + 1) xs))) added
    ∙ append_assoc old (f (view (get_or xs i d))) (flat_map f (map view (drop (i + 1) xs)))
    ∙ ap (λ l. old ++ flat_map f (map view l)) (sym (drop_more xs i d h)) ∙ before

-- nothing is left
pub all-done : {X Y Z : Type 0} (view : X → Y) (f : Y → List Z) (xs : List X) (i : ℕ) (old goal : List Z)
    → length xs ≤ i → old ++ flat_map f (map view (drop i xs)) ≡ goal → old ≡ goal
all-done view f xs i old goal h before =
    sym (append-nil old) ∙ ap (λ l. old ++ flat_map f (map view l)) (sym (drop_of_length-le xs h)) ∙ before

-- five parts, the first behind nothing
pub all-parts : (none one two three four five h a b c d : List ℕ) → none ≡ [] → one ≡ none ++ h → two ≡ one ++ a
    → three ≡ two ++ b → four ≡ three ++ c → five ≡ four ++ d → five ≡ h ++ ((a ++ b) ++ (c ++ d))
all-parts none one two three four five h a b c d is0 is1 is2 is3 is4 is5 =
    is5 ∙ ap (λ l. l ++ d) (is4 ∙ ap (λ l. l ++ c) (is3 ∙ ap (λ l. l ++ b)
    (is2 ∙ ap (λ l. l ++ a) (is1 ∙ ap (λ l. l ++ h) is0))))
    ∙ append_assoc ((h ++ a) ++ b) c d ∙ ap (λ l. l ++ (c ++ d)) (append_assoc h a b)
    ∙ append_assoc h (a ++ b) (c ++ d)
