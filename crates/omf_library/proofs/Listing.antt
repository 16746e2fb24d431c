-- What is left of a list of entries while their names are appended.
use Rattle.std.proofs.Common.{◌≡◌, ◌≢◌, ℕ, zero, suc, ◌-◌, ◌<◌, ◌≤◌, get_or, slice_get, List, [], ◌∷◌, ◌++◌, length}
use Rattle.std.proofs.Common.{Some, None, refl, sym, ap, ◌∙◌, append_assoc, arith, le_refl}
use Rattle.std.proofs.lemmas.List.{append-nil, map-append}
use Rattle.std.specs.declared.option.Option.{Option}
use Rattle.std.specs.Borrow.{Bor}
use Rattle.std.specs.Option.{option_map_or, option_map, option_copied}
use Rattle.std.specs.Slice.{IsItemAt}
use Rattle.std.proofs.lemmas.Option.{slice_get-map}
use Rattle.omf_library.specs.Said.{bytes_said}
use Rattle.omf_library.specs.Entries.{entries_up_to, entries, listed_name}
use Rattle.omf_library.specs.Names.{texts}

-- what is told, behind which what the entries that are left give makes all that the entries give
pub record EntriesLeft {A B : Type 0} (front : List ℕ → Option (A × List ℕ)) (told_of : List A → List B)
    (bytes rest : List ℕ) (old now : List B) : Type 0 where
  pub most : ℕ
  pub enough : length rest ≤ most
  pub all : now ++ told_of (entries_up_to most front rest) ≡ old ++ told_of (entries front bytes)

pub left_first : {A B : Type 0} (front : List ℕ → Option (A × List ℕ)) (told_of : List A → List B)
    (bytes : List ℕ) (old : List B)
    → EntriesLeft front told_of bytes bytes old old
unfolding entries
left_first front told_of bytes old = record { most = length bytes; enough = le_refl _; all = refl }

entries-more : {A : Type 0} (front : List ℕ → Option (A × List ℕ)) (most : ℕ) (rest after : List ℕ) (x : A)
    → front rest ≡ Some (x, after)
    → entries_up_to (suc most) front rest ≡ x ∷ entries_up_to most front after
entries-more front most rest after x e = ap (λ o. option_map_or (λ (y, r). y ∷ entries_up_to most front r) o []) e

entries-none : {A : Type 0} (front : List ℕ → Option (A × List ℕ)) (most : ℕ) (rest : List ℕ) → front rest ≡ None
    → entries_up_to most front rest ≡ []
entries-none front zero rest e = refl
entries-none front (suc most) rest e = ap (λ o. option_map_or (λ (y, r). y ∷ entries_up_to most front r) o []) e

left_next : {A B : Type 0} (front : List ℕ → Option (A × List ℕ)) (told_of : List A → List B)
    (bytes rest after : List ℕ) (old now : List B) (x : A) (ys : List B)
    → front rest ≡ Some (x, after) → length after < length rest
    → ((xs : List A) → told_of (x ∷ xs) ≡ ys ++ told_of xs)
    → (most : ℕ) → length rest ≤ most
    → now ++ told_of (entries_up_to most front rest) ≡ old ++ told_of (entries front bytes)
    → EntriesLeft front told_of bytes after old (now ++ ys)
left_next front told_of bytes rest after old now x ys e shorter more zero enough all = absurd (omega arith)
left_next front told_of bytes rest after old now x ys e shorter more (suc most) enough all = record {
  most = most;
  enough = omega arith;
  all =
      append_assoc now ys _ ∙ ap (λ l. now ++ l) (sym (ap told_of (entries-more front most rest after x e) ∙ more _))
      ∙ all;
}

-- one entry more, which gives these
pub left_more : {A B : Type 0} (front : List ℕ → Option (A × List ℕ)) (told_of : List A → List B)
    (bytes rest after : List ℕ) (old now : List B) (x : A) (ys : List B)
    → EntriesLeft front told_of bytes rest old now
    → front rest ≡ Some (x, after) → length after < length rest
    → ((xs : List A) → told_of (x ∷ xs) ≡ ys ++ told_of xs)
    → EntriesLeft front told_of bytes after old (now ++ ys)
left_more front told_of bytes rest after old now x ys left e shorter more =
    left_next front told_of bytes rest after old now x ys e shorter more left.most left.enough left.all

-- no entry is left
pub left_none : {A B : Type 0} (front : List ℕ → Option (A × List ℕ)) (told_of : List A → List B)
    (bytes rest : List ℕ) (old now : List B)
    → EntriesLeft front told_of bytes rest old now → front rest ≡ None → told_of [] ≡ []
    → now ≡ old ++ told_of (entries front bytes)
left_none front told_of bytes rest old now left e empty =
    sym (append-nil now) ∙ ap (λ l. now ++ l) (sym (ap told_of (entries-none front left.most rest e) ∙ empty))
    ∙ left.all

-- names and one more
pub texts-push : (names : List (Bor (List ℕ))) (name : Bor (List ℕ))
    → texts (names ++ name ∷ []) ≡ texts names ++ name.now ∷ []
texts-push names name = map-append (λ (x : Bor (List ℕ)). x.now) names (name ∷ [])

-- one entry more, which gives nothing
pub left_skip : {A B : Type 0} (front : List ℕ → Option (A × List ℕ)) (told_of : List A → List B)
    (bytes rest after : List ℕ) (old now : List B) (x : A)
    → EntriesLeft front told_of bytes rest old now
    → front rest ≡ Some (x, after) → length after < length rest → ((xs : List A) → told_of (x ∷ xs) ≡ told_of xs)
    → EntriesLeft front told_of bytes after old now
left_skip front told_of bytes rest after old now x left e shorter same =
    let more = left_more front told_of bytes rest after old now x [] left e shorter same in
    rw append-nil at more

-- ---- the name of an index

get-some : (xs : List (Bor (List ℕ))) (k : ℕ) (x : Bor (List ℕ)) → k < length xs → x ≡ get_or xs k x
    → slice_get xs k ≡ Some x
get-some [] k x within e = absurd (omega arith)
get-some (y ∷ ys) zero x within e = ap Some (sym e)
get-some (y ∷ ys) (suc k) x within e = get-some ys k x (omega arith) e

get-none : (xs : List (Bor (List ℕ))) (k : ℕ) → length xs ≤ k → slice_get xs k ≡ None
get-none [] k past = refl
get-none (y ∷ ys) zero past = absurd (omega arith)
get-none (y ∷ ys) (suc k) past = get-none ys k (omega arith)

said-at : (xs : List (Bor (List ℕ))) (k : ℕ) (o : Option (Bor (List ℕ))) → slice_get xs k ≡ o
    → bytes_said o ≡ slice_get (texts xs) k
said-at xs k None e =
    sym (slice_get-map (λ (x : Bor (List ℕ)). x.now) xs k ∙ ap (option_map (λ (x : Bor (List ℕ)). x.now)) e)
said-at xs k (Some x) e =
    sym (slice_get-map (λ (x : Bor (List ℕ)). x.now) xs k ∙ ap (option_map (λ (x : Bor (List ℕ)). x.now)) e)

item-said : (xs : List (Bor (List ℕ))) (k : ℕ) (r : Option (Bor (Bor (List ℕ)))) → IsItemAt xs k r
    → bytes_said (option_copied r) ≡ slice_get (texts xs) k
item-said xs k None item = said-at xs k None (get-none xs k item.3)
item-said xs k (Some x) item = said-at xs k (Some x.now) (get-some xs k x.now item.3.0 item.1)

-- what a look-up by an index less one finds
pub listed-is : (xs : List (Bor (List ℕ))) (i k : ℕ) (r : Option (Bor (Bor (List ℕ)))) → i ≢ 0 → k ≡ i - 1
    → IsItemAt xs k r
    → bytes_said (option_copied r) ≡ listed_name (texts xs) i
listed-is xs zero k r some e item = absurd (some refl)
listed-is xs (suc j) k r some e item =
    let same : k ≡ j = omega (arith, e) in
    item-said xs k r item ∙ ap (slice_get (texts xs)) same
