-- Tests along lists, one element more at a time.
use Rattle.std.proofs.Common.{◌≡◌, ℕ, zero, suc, ◌+◌, ◌<◌, Bool, true, false, ◌||◌, List, [], ◌∷◌, ◌++◌, length, take}
use Rattle.std.proofs.Common.{get_or, Option, None, Some, slice_get, refl, ap, ◌∙◌, arith, add-one}
use Rattle.std.proofs.lemmas.List.{take_more}
use Rattle.std.proofs.lemmas.List.Elements.{filter_map-append}
use Rattle.std.proofs.lemmas.List.Folds.{list_any-append, list_any_at}
use Rattle.std.proofs.lemmas.Option.{get_or_from_slice_get, slice_get_within}
use Rattle.std.specs.List.{AllByRecursion, cons_option, filter_map, list_any}
use Rattle.std.proofs.Common.{All}
use Rattle.omf_module.specs.Module.{ExternalSymbol, Group, Segment}
use Rattle.omf_module.specs.Sound.{IsMember}
use Rattle.omf_place.proofs.Walks.{take-push}

take_one : {X : Type 0} (xs : List X) (k : ℕ) (x : X) → slice_get xs k ≡ Some x → take (k + 1) xs ≡ take k xs ++ x ∷ []
take_one xs k x e = rw add-one (take-push xs k x e)

pub any_at : {X : Type 0} (p : X → Bool) (xs : List X) (i : ℕ) (x : X) → slice_get xs i ≡ Some x → p x ≡ true
    → list_any p xs ≡ true
any_at p xs i x e h = list_any_at p xs i x (slice_get_within xs i x e) (ap p (get_or_from_slice_get xs i x x e) ∙ h)

pub any_kept : {X : Type 0} (p : X → Bool) (xs : List X) (i : ℕ) (x : X) → slice_get xs i ≡ Some x
    → list_any p (take i xs) ≡ false → p x ≡ false → list_any p (take (i + 1) xs) ≡ false
any_kept p xs i x e h t =
    ap (list_any p) (take_one xs i x e) ∙ list_any-append p (take i xs) (x ∷ []) ∙ ap (λ b. b || (p x || false)) h
    ∙ ap (λ b. b || false) t

-- members of a group, one more
members-added : {X : Type 0} (xs : List X) (ms : List ℕ) (i : ℕ) (x : X) → i < length ms →
    slice_get xs (get_or ms i 0) ≡ Some x →
    filter_map (slice_get xs) (take (i + 1) ms) ≡ filter_map (slice_get xs) (take i ms) ++ x ∷ []
members-added xs ms i x h e =
    ap (filter_map (slice_get xs)) (take_more ms i 0 h)
    ∙ filter_map-append (slice_get xs) (take i ms) (get_or ms i 0 ∷ []) ∙ rw e refl

pub member_kept : {X : Type 0} (p : X → Bool) (xs : List X) (ms : List ℕ) (i : ℕ) (x : X) → i < length ms →
    slice_get xs (get_or ms i 0) ≡ Some x →
    list_any p (filter_map (slice_get xs) (take i ms)) ≡ false → p x ≡ false →
    list_any p (filter_map (slice_get xs) (take (i + 1) ms)) ≡ false
member_kept p xs ms i x h e was t =
    ap (list_any p) (members-added xs ms i x h e) ∙ list_any-append p (filter_map (slice_get xs) (take i ms)) (x ∷ [])
    ∙ ap (λ b. b || (p x || false)) was ∙ ap (λ b. b || false) t

pub member_found : {X : Type 0} (p : X → Bool) (xs : List X) (ms : List ℕ) (i : ℕ) (x : X) → i < length ms →
    slice_get xs (get_or ms i 0) ≡ Some x → p x ≡ true →
    list_any p (filter_map (slice_get xs) ms) ≡ true
member_found p xs [] i x h e t = absurd (omega arith)
member_found p xs (m ∷ ms) zero x h e t = rw e (ap (λ b. b || list_any p (filter_map (slice_get xs) ms)) t)
member_found {X = X} p xs (m ∷ ms) (suc i) x h e t =
    behind (slice_get xs m) (member_found p xs ms i x (omega arith) e t)
  where
    open_or : (b : Bool) → (b || true) ≡ true
    open_or true = refl
    open_or false = refl

    behind : (o : Option X) → list_any p (filter_map (slice_get xs) ms) ≡ true
        → list_any p (cons_option o (filter_map (slice_get xs) ms)) ≡ true
    behind None u = u
    behind (Some y) u = ap (λ b. p y || b) u ∙ open_or (p y)

-- the members of a group are segments of its module
pub members_below : (ss : List Segment) (gs : List Group) (es : List ExternalSymbol) (ms : List ℕ)
    → All (IsMember ss gs es) ms → AllByRecursion (λ k. k < length ss) ms
members_below ss gs es [] h = tt
members_below ss gs es (m ∷ ms) h = (
  let it = h 0 m (omega arith) in slice_get_within ss m it.0 it.1.0,
  members_below ss gs es ms (λ i d l. h (suc i) d (omega (arith, l))),
)
