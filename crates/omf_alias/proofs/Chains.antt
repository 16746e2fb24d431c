-- Aliases that are looked for, and one alias behind the other.
use Rattle.std.proofs.Common.{◌≡◌, ℕ, zero, suc, ◌+◌, ◌<◌, ◌≤◌, Bool, true, false, List, ◌∷◌, length, map, drop}
use Rattle.std.proofs.Common.{get_or, find, cond, is_none, is_some, not, Option, None, Some, refl, sym, ap, ◌∙◌}
use Rattle.std.proofs.Common.{add-one}
use Rattle.std.proofs.Math.ListN.{drop_of_length-le}
use Rattle.std.proofs.Math.Seq.{drop-cons}
use Rattle.std.specs.Borrow.{Bor}
use Rattle.std.specs.Option.{option_map_or}
use Rattle.omf_library.specs.Said.{bytes_said}
use Rattle.omf_alias.specs.Meaning.{Renaming, replacement, end_within, meaning, IsEnd}

-- ---- the first that is so

find-next : {X Y : Type 0} (f : X → Y) (p : Y → Bool) (xs : List X) (i : ℕ) (d : X) (b : Bool) → i < length xs
    → p (f (get_or xs i d)) ≡ b
    → find p (map f (drop i xs)) ≡ cond b (Some (f (get_or xs i d))) (find p (map f (drop (i + 1) xs)))
find-next f p xs i d b h so =
    ap (λ l. find p (map f l))
    (drop-cons xs i d h ∙ ap (λ k. get_or xs i d ∷ drop k xs) (sym (add-one i)))
    ∙ ap (λ t. cond t (Some (f (get_or xs i d))) (find p (map f (drop (i + 1) xs)))) so

pub found-here : {X Y : Type 0} (f : X → Y) (p : Y → Bool) (xs : List X) (i : ℕ) (d : X) → i < length xs
    → p (f (get_or xs i d)) ≡ true
    → find p (map f (drop i xs)) ≡ find p (map f xs) → find p (map f xs) ≡ Some (f (get_or xs i d))
found-here f p xs i d h so all = sym all ∙ find-next f p xs i d true h so

pub found-later : {X Y : Type 0} (f : X → Y) (p : Y → Bool) (xs : List X) (i : ℕ) (d : X) → i < length xs
    → p (f (get_or xs i d)) ≡ false
    → find p (map f (drop i xs)) ≡ find p (map f xs) → find p (map f (drop (i + 1) xs)) ≡ find p (map f xs)
found-later f p xs i d h so all = sym (find-next f p xs i d false h so) ∙ all

pub found-nowhere : {X Y : Type 0} (f : X → Y) (p : Y → Bool) (xs : List X) (i : ℕ) → length xs ≤ i
    → find p (map f (drop i xs)) ≡ find p (map f xs) → find p (map f xs) ≡ None
found-nowhere f p xs i h all = sym all ∙ ap (λ l. find p (map f l)) (drop_of_length-le xs h)

-- ---- one alias behind the other

abbrev after : ℕ → Renaming → List ℕ → Option (List ℕ) → Option (List ℕ)
after most r name next = option_map_or (end_within most r) next (Some name)

pub end-next : (most : ℕ) (r : Renaming) (name next : List ℕ) → replacement r name ≡ Some next
    → end_within (suc most) r name ≡ end_within most r next
end-next most r name next e = ap (after most r name) e

pub end-here : (most : ℕ) (r : Renaming) (name : List ℕ) → replacement r name ≡ None
    → end_within (suc most) r name ≡ Some name
end-here most r name e = ap (after most r name) e

ends-at : (most : ℕ) (r : Renaming) (name means : List ℕ) (next : Option (List ℕ)) → replacement r name ≡ next
    → after most r name next ≡ Some means
    → ((n : List ℕ) → end_within most r n ≡ Some means → replacement r means ≡ None) → replacement r means ≡ None
ends-at most r name means None e h rest =
    let same : name ≡ means = cc in
    ap (replacement r) (sym same) ∙ e
ends-at most r name means (Some n) e h rest = rest n h

ends-within : (most : ℕ) (r : Renaming) (name means : List ℕ) → end_within most r name ≡ Some means
    → replacement r means ≡ None
ends-within zero r name means h = let z : ⊥ = cc in absurd z
ends-within (suc most) r name means h = ends-at most r name means (replacement r name) refl h
    (λ n e. ends-within most r n means e)

pub is_end : IsEnd
unfolding meaning
is_end r name means h = ends-within (suc (length r.aliases)) r name means h

-- ---- whether something is meant

pub none-said : (o : Option (Bor (List ℕ))) (means : Option (List ℕ)) (b : Bool) → bytes_said o ≡ means
    → is_some o ≡ not b → is_none means ≡ b
none-said None means true e h = ap is_none (sym e)
none-said None means false e h = let z : ⊥ = cc in absurd z
none-said (Some x) means true e h = let z : ⊥ = cc in absurd z
none-said (Some x) means false e h = ap is_none (sym e)
