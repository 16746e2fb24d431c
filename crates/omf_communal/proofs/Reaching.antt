-- The modules of a program, one more with its index.
use Rattle.std.proofs.Common.{◌≡◌, ℕ, ◌+◌, ◌<◌, Bool, true, false, cond, if◌then◌else◌, not, ◌&&◌, ◌||◌, List, [], ◌∷◌, ◌++◌, length, filter}
use Rattle.std.proofs.Common.{map, take, get_or, slice_get, Option, Some, None, refl, ap, ap₂, sym, ◌∙◌, append-nil}
use Rattle.std.proofs.Common.{append_assoc, arith, add-one, length-take}
use Rattle.std.proofs.lemmas.List.{map-append, take_more}
use Rattle.std.proofs.lemmas.List.Elements.{filter-append, filter_map-append}
use Rattle.std.proofs.lemmas.Grind.{flat_map-append}
use Rattle.std.specs.Borrow.{Bor}
use Rattle.std.specs.List.{cons_option, enumerate_from, filter_map, flat_map, list_any}
use Rattle.omf_place.proofs.Walks.{take-push}
use Rattle.omf_place.specs.Names.{agrees}
use Rattle.omf_place.specs.declared.names.Names.{Names}
use Rattle.omf_communal.specs.Far.{firsts}
use Rattle.omf_communal.specs.Modules.{bytes_of}
use Rattle.omf_communal.proofs.Listing.{enumerate-push, map_more}

pub reach-turn : {X Y : Type 0} (f : ℕ × X → List Y) (xs : List X) (i : ℕ) (x : X) (old new : List Y) → i < length xs →
    x ≡ get_or xs i x → old ≡ flat_map f (enumerate_from 0 (take i xs)) → new ≡ old ++ f (i, x) →
    new ≡ flat_map f (enumerate_from 0 (take (i + 1) xs))
reach-turn f xs i x old new h e was is =
    let front = flat_map f (enumerate_from 0 (take i xs)) in
    let short = length-take i xs in
    let at : 0 + length (take i xs) ≡ i = omega (arith, short, h) in
    is ∙ ap (λ ys. ys ++ f (i, x)) was
    ∙ sym
    (ap (λ ys. flat_map f (enumerate_from 0 ys)) (take_more xs i x h ∙ ap (λ y. take i xs ++ y ∷ []) (sym e))
    ∙ ap (flat_map f) (enumerate-push 0 (take i xs) x)
    ∙ flat_map-append f (enumerate_from 0 (take i xs)) ((0 + length (take i xs), x) ∷ [])
    ∙ ap (λ ys. front ++ ys) (append-nil (f (0 + length (take i xs), x)))
    ∙ ap (λ n. front ++ f (n, x)) at)

-- one more of a list, by its place
pub take_one : {X : Type 0} (xs : List X) (k : ℕ) (x : X) → slice_get xs k ≡ Some x
    → take (k + 1) xs ≡ take k xs ++ x ∷ []
take_one xs k x e = rw add-one (take-push xs k x e)

pub flat_map_one : {X Y : Type 0} (f : X → List Y) (xs : List X) (k : ℕ) (x : X) → slice_get xs k ≡ Some x
    → flat_map f (take (k + 1) xs) ≡ flat_map f (take k xs) ++ f x
flat_map_one f xs k x e =
    ap (flat_map f) (take_one xs k x e) ∙ flat_map-append f (take k xs) (x ∷ [])
    ∙ ap (λ ys. flat_map f (take k xs) ++ ys) (append-nil (f x))

-- a name more of those that a list gives, or none
module _ {X : Type 0} (f : X → Option (List ℕ)) (xs : List X) (i : ℕ) (d : X) (h : i < length xs) where
  longer : filter_map f (take (i + 1) xs) ≡ filter_map f (take i xs) ++ filter_map f (get_or xs i d ∷ [])
  longer = ap (filter_map f) (take_more xs i d h) ∙ filter_map-append f (take i xs) (get_or xs i d ∷ [])

  pub name-more : (n : Bor (List ℕ)) (old new : List (Bor (List ℕ))) (front : List (List ℕ)) →
      f (get_or xs i d) ≡ Some n.now → bytes_of old ≡ front ++ filter_map f (take i xs) → new ≡ old ++ n ∷ [] →
      bytes_of new ≡ front ++ filter_map f (take (i + 1) xs)
  name-more n old new front gives was is =
      ap bytes_of is ∙ map-append (λ (b : Bor (List ℕ)). b.now) old (n ∷ []) ∙ ap (λ ys. ys ++ n.now ∷ []) was
      ∙ append_assoc front (filter_map f (take i xs)) (n.now ∷ [])
      ∙ ap (λ ys. front ++ ys)
      (sym (longer ∙ ap (λ o. filter_map f (take i xs) ++ cons_option o []) gives))

  pub name-none : (old : List (Bor (List ℕ))) (front : List (List ℕ)) → f (get_or xs i d) ≡ None →
      bytes_of old ≡ front ++ filter_map f (take i xs) → bytes_of old ≡ front ++ filter_map f (take (i + 1) xs)
  name-none old front gives was =
      was ∙ ap (λ ys. front ++ ys)
      (sym
      (longer ∙ ap (λ o. filter_map f (take i xs) ++ cons_option o []) gives ∙ append-nil (filter_map f (take i xs))))

-- a name more of what passes a test
module _ {X : Type 0} (named : X → List ℕ) (p : X → Bool) (xs : List X) (i : ℕ) (x : X) (e : slice_get xs i ≡ Some x)
  where
    filtered : filter p (take (i + 1) xs) ≡ filter p (take i xs) ++ cond (p x) (x ∷ []) []
    filtered = ap (filter p) (take_one xs i x e) ∙ filter-append p (take i xs) (x ∷ [])

    pub named-in : (n : Bor (List ℕ)) (old new : List (Bor (List ℕ))) → n.now ≡ named x → p x ≡ true →
        bytes_of old ≡ map named (filter p (take i xs)) → new ≡ old ++ n ∷ [] →
        bytes_of new ≡ map named (filter p (take (i + 1) xs))
    named-in n old new same t was is =
        ap bytes_of is ∙ map-append (λ (b : Bor (List ℕ)). b.now) old (n ∷ []) ∙ ap₂ (λ ys y. ys ++ y ∷ []) was same
        ∙ sym
        (ap (map named) (filtered ∙ ap (λ b. filter p (take i xs) ++ cond b (x ∷ []) []) t)
        ∙ map-append named (filter p (take i xs)) (x ∷ []))

    pub named-out : (old : List (Bor (List ℕ))) → p x ≡ false → bytes_of old ≡ map named (filter p (take i xs)) →
        bytes_of old ≡ map named (filter p (take (i + 1) xs))
    named-out old t was =
        was ∙ ap (map named)
        (sym
        (filtered ∙ ap (λ b. filter p (take i xs) ++ cond b (x ∷ []) []) t ∙ append-nil (filter p (take i xs))))

-- the same tests
pub same-test : (f o b g p c : Bool) → f ≡ g → o ≡ p → b ≡ c → (f && (o && not b)) ≡ (g && (p && not c))
same-test f o b g p c one two three =
    ap (λ x. x && (o && not b)) one ∙ ap (λ x. g && (x && not b)) two ∙ ap (λ x. g && (p && not x)) three

-- of one list or the other
pub chosen : {X : Type 0} (first l f : Bool) (t : X → Bool) (ls fs : List X) → l ≡ list_any t ls → f ≡ list_any t fs
    → (if first then l else f) ≡ list_any t (if first then ls else fs)
chosen true l f t ls fs one two = one
chosen false l f t ls fs one two = two

-- ---- of names that agree the first

left_out : (seen same : Bool) (x : List ℕ) (f : List (List ℕ) → List (List ℕ)) → f [] ≡ []
    → f (x ∷ []) ≡ cond (not same) (x ∷ []) [] → f (cond seen [] (x ∷ [])) ≡ cond (same || seen) [] (x ∷ [])
left_out true true x f none one = none
left_out true false x f none one = none
left_out false true x f none one = one
left_out false false x f none one = one

module _ (names : Names) where
  -- one more, which is new or agrees with one of those before
  firsts-push : (ns : List (List ℕ)) (x : List ℕ)
      → firsts names (ns ++ x ∷ []) ≡ firsts names ns ++ cond (list_any (agrees names x) ns) [] (x ∷ [])
  firsts-push [] x = refl
  firsts-push (n ∷ ns) x =
      let test : List ℕ → Bool = λ other. not (agrees names other n) in
      ap (λ vs. n ∷ filter test vs) (firsts-push ns x)
      ∙ ap (λ vs. n ∷ vs) (filter-append test (firsts names ns) (cond (list_any (agrees names x) ns) [] (x ∷ [])))
      ∙ ap (λ vs. n ∷ (filter test (firsts names ns) ++ vs))
      (left_out (list_any (agrees names x) ns) (agrees names x n) x (filter test) refl refl)

  module _ (list : List (Bor (List ℕ))) (i : ℕ) (d : Bor (List ℕ)) (h : i < length list) where
    grown : (seen : Bool) → list_any (agrees names (get_or list i d).now) (bytes_of (take i list)) ≡ seen →
        firsts names (bytes_of (take (i + 1) list))
        ≡ firsts names (bytes_of (take i list)) ++ cond seen [] ((get_or list i d).now ∷ [])
    grown seen is =
        ap (firsts names) (map_more (λ (b : Bor (List ℕ)). b.now) list i d h)
        ∙ firsts-push (bytes_of (take i list)) (get_or list i d).now
        ∙ ap (λ s. firsts names (bytes_of (take i list)) ++ cond s [] ((get_or list i d).now ∷ [])) is

    -- it is one of those before, or not
    pub first-next : (seen : Bool) (old new : List (Bor (List ℕ))) → bytes_of old ≡ firsts names (bytes_of (take i list))
        → seen ≡ list_any (agrees names (get_or list i d).now) (bytes_of (take i list))
        → new ≡ cond seen old (old ++ get_or list i d ∷ []) → bytes_of new ≡ firsts names (bytes_of (take (i + 1) list))
    first-next true old new was seen is =
        ap bytes_of is ∙ was ∙ sym (grown true (sym seen) ∙ append-nil (firsts names (bytes_of (take i list))))
    first-next false old new was seen is =
        ap bytes_of is ∙ map-append (λ (b : Bor (List ℕ)). b.now) old (get_or list i d ∷ [])
        ∙ ap (λ ns. ns ++ (get_or list i d).now ∷ []) was ∙ sym (grown false (sym seen))
