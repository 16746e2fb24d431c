-- Texts of the items of a list, read by their indexes.
use Rattle.std.proofs.Common.{◌≡◌, ℕ, ◌+◌, ◌<◌, List, length, get_or, take, sym, subst, Some}
use Rattle.std.specs.declared.option.Option.{Option}
use Rattle.std.specs.List.{flat_map, slice_get}
use Rattle.std.specs.Io.KnownBytes.{Appends}
use Rattle.std.proofs.lemmas.Option.{slice_get_within, get_or_from_slice_get}
use Rattle.omf_frame.specs.Device.{AppendsFront}
use Rattle.omf_frame.proofs.Told.{Appends-trans}
use Rattle.omf_text.proofs.PrintLemmas.{flat_map-take_more, items_cut}

-- the text of one more item was written
pub item_more : {X : Type 0} (f : X → List ℕ) (xs : List X) (i : ℕ) (d : X) (a b c : Option (List ℕ)) → i < length xs
    → Appends a b (flat_map f (take i xs)) → Appends b c (f (get_or xs i d))
    → Appends a c (flat_map f (take (i + 1) xs))
item_more f xs i d a b c h p q = subst (Appends a c) (sym (flat_map-take_more f xs i d h)) (Appends-trans a b c _ _ p q)

-- where the item is read by a look-up
pub read_more : {X : Type 0} (f : X → List ℕ) (xs : List X) (i : ℕ) (x : X) (a b c : Option (List ℕ))
    → slice_get xs i ≡ Some x
    → Appends a b (flat_map f (take i xs)) → Appends b c (f x) → Appends a c (flat_map f (take (i + 1) xs))
read_more f xs i x a b c e p q =
    item_more f xs i x a b c (slice_get_within xs i x e) p
    (subst (λ y. Appends b c (f y)) (sym (get_or_from_slice_get xs i x x e)) q)

-- a writer failed at an item that is read by a look-up
pub reads_cut : {X : Type 0} (f : X → List ℕ) (xs : List X) (i : ℕ) (x : X) (a b c : Option (List ℕ)) (l m n : ℕ)
    → slice_get xs i ≡ Some x
    → Appends a b (flat_map f (take i xs)) → m ≡ l → AppendsFront b c (f x) × (n ≡ m + 1)
    → AppendsFront a c (flat_map f xs) × (n ≡ l + 1)
reads_cut f xs i x a b c l m n e p none q =
    items_cut f xs i x a b c l m n (slice_get_within xs i x e) p none
    (subst (λ y. AppendsFront b c (f y) × (n ≡ m + 1)) (sym (get_or_from_slice_get xs i x x e)) q)
