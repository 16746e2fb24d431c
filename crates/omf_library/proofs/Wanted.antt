-- The places of names, name by name and record by record.
use Rattle.std.proofs.Common.{◌≡◌, ℕ, ◌+◌, ◌<◌, ◌≤◌, Bool, true, false, ◌||◌, List, [], ◌∷◌, ◌++◌, length, map, drop, take}
use Rattle.std.proofs.Common.{get_or, cond, is_some, Some, None, refl, sym, ap, ap₂, ◌∙◌}
use Rattle.std.proofs.lemmas.List.{at_drop_all, map-append, take_more}
use Rattle.std.proofs.lemmas.List.Folds.{list_any-append}
use Rattle.std.proofs.lemmas.Slice.Eq.{bytes_eq-Decides}
use Rattle.std.specs.declared.option.Option.{Option}
use Rattle.std.specs.Borrow.{Bor}
use Rattle.std.specs.Cmp.Lexicographic.{slice_cmp}
use Rattle.std.specs.List.{list_any}
use Rattle.std.specs.Map.{lookup}
use Rattle.std.specs.Option.{option_map, option_or}
use Rattle.std.specs.Ordering.{is_eq, nat_cmp}
use Rattle.std.specs.Str.{bytes_eq}
use Rattle.omf_frame.specs.Frame.{Frame}
use Rattle.omf_frame.specs.Lending.{plain_frame}
use Rattle.omf_frame.specs.declared.frame.Frame.{Frame as LentFrame}
use Rattle.omf_library.specs.declared.wanting.WantingPlaces.{WantingPlaces}
use Rattle.omf_library.specs.Listed.{listed_in}
use Rattle.omf_library.specs.Names.{texts}
use Rattle.omf_library.specs.Wanting.{asks, first_wanting, place_of, wanting_place}
use Rattle.omf_library.proofs.Asking.{left-next}

-- ---- a map of places

-- a value that is kept where there is one, and added where there is none
pub inserted : {X : Type 0} (v : X) (hit found : Bool) (old new : Option X) → (found ≡ true → new ≡ old) →
    (found ≡ false → new ≡ cond hit (Some v) old) → (hit ≡ true → is_some old ≡ found) →
    new ≡ option_or old (cond hit (Some v) None)
inserted v hit true (Some x) new kept added same = kept refl
inserted v hit false None new kept added same = added refl
inserted v true false (Some x) new kept added same = absurd (let u : true ≡ false = same refl in cc)
inserted v false false (Some x) new kept added same = added refl
inserted v true true None new kept added same = absurd (let u : false ≡ true = same refl in cc)
inserted v false true None new kept added same = kept refl

-- names that are the same have one place
pub same_place : {A : Type 0} (p : WantingPlaces A) (x y : Bor (List ℕ)) → bytes_eq x.now y.now ≡ true
    → place_of p x ≡ place_of p y
unfolding place_of
same_place p x y e =
    let same : x.now ≡ y.now = (bytes_eq-Decides x.now y.now).0 e in
    ap (λ n. lookup (λ (l : Bor (List ℕ)). is_eq (slice_cmp nat_cmp n l.now)) p.places.entries) same

pub or-false : (b : Bool) → (b || false) ≡ b
or-false true = refl
or-false false = refl

pub two_hits : {X : Type 0} (v : X) (a : Option X) (one other : Bool)
    → option_or (option_or a (cond one (Some v) None)) (cond other (Some v) None)
    ≡ option_or a (cond (one || other) (Some v) None)
two_hits v (Some x) one other = refl
two_hits v None true other = refl
two_hits v None false other = refl

-- no element so far
pub hit-first : {V : Type 0} (v : V) (start : Option V) → start ≡ option_or start (cond false (Some v) None)
hit-first v (Some x) = refl
hit-first v None = refl

-- one element more that is a name, or isn't
pub hit-turn : {X Y V : Type 0} (f : X → Y) (test : Y → Bool) (xs : List X) (i : ℕ) (x d : X) (v : V)
    (start was here : Option V) → i < length xs → x ≡ get_or xs i d
    → was ≡ option_or start (cond (list_any test (map f (take i xs))) (Some v) None)
    → here ≡ option_or was (cond (test (f x)) (Some v) None)
    → here ≡ option_or start (cond (list_any test (map f (take (i + 1) xs))) (Some v) None)
hit-turn f test xs i x d v start was here h is earlier now =
    let front = map f (take i xs) in
    let longer : map f (take (i + 1) xs) ≡ front ++ f x ∷ [] =
    ap (map f) (take_more xs i d h) ∙ map-append f (take i xs) (get_or xs i d ∷ [])
    ∙ ap (λ y. front ++ f y ∷ []) (sym is) in
    now ∙ ap (λ o. option_or o (cond (test (f x)) (Some v) None)) earlier
    ∙ two_hits v start (list_any test front) (test (f x))
    ∙ ap (λ b. option_or start (cond b (Some v) None))
    (ap (λ b. list_any test front || b) (sym (or-false (test (f x))))
    ∙ sym (ap (list_any test) longer ∙ list_any-append test front (f x ∷ [])))

-- ---- the records that are left

-- what has no place so far has that of the first of the records from one on that asks for it
abbrev pub IsPlaced : (name : List ℕ) → (frames : List LentFrame) → (i : ℕ) → (listed : List (List ℕ))
    → (place : Option ℕ) → Type 0
IsPlaced name frames i listed place =
    option_or place (option_map (λ (f : Frame). f.place) (first_wanting name listed (map plain_frame (drop i frames))))
    ≡ wanting_place name (map plain_frame frames)

or-later : (wants : Bool) (place : Option ℕ) (f : Frame) (later : Option Frame)
    → option_or (option_or place (cond wants (Some f.place) None)) (option_map (λ (g : Frame). g.place) later)
    ≡ option_or place (option_map (λ (g : Frame). g.place) (cond wants (Some f) later))
or-later wants (Some n) f later = refl
or-later true None f later = refl
or-later false None f later = refl

or-none : {X : Type 0} (o : Option X) → option_or o None ≡ o
or-none None = refl
or-none (Some x) = refl

-- one record more
pub placed-more : (name : List ℕ) (frames : List LentFrame) (i : ℕ) (listed more : List (List ℕ)) (f : LentFrame)
    (old new : Option ℕ) → i < length frames → f ≡ get_or frames i f
    → new ≡ option_or old (cond (asks name listed (plain_frame f)) (Some f.place) None)
    → more ≡ listed ++ listed_in (plain_frame f)
    → IsPlaced name frames i listed old → IsPlaced name frames (i + 1) more new
placed-more name frames i listed more f old new within is asked added placed =
    let wants = asks name listed (plain_frame f) in
    let later : List (List ℕ) → Option Frame = λ l. first_wanting name l (map plain_frame (drop (i + 1) frames)) in
    ap₂ (λ o l. option_or o (option_map (λ (g : Frame). g.place) (later l))) asked added
    ∙ or-later wants old (plain_frame f) (later (listed ++ listed_in (plain_frame f)))
    ∙ ap (λ o. option_or old (option_map (λ (g : Frame). g.place) o))
    (sym (left-next name frames i listed f wants within is refl))
    ∙ placed

-- no record is left
pub placed-all : (name : List ℕ) (frames : List LentFrame) (i : ℕ) (listed : List (List ℕ)) (place : Option ℕ)
    → IsPlaced name frames i listed place → length frames ≤ i → place ≡ wanting_place name (map plain_frame frames)
placed-all name frames i listed place placed past =
    sym (or-none place)
    ∙ ap (λ o. option_or place (option_map (λ (g : Frame). g.place) o))
    (sym (at_drop_all (λ (fs : List LentFrame). first_wanting name listed (map plain_frame fs)) frames i past))
    ∙ placed

-- before the first record
pub placed-first : (name : List ℕ) (frames : List LentFrame) (listed : List (Bor (List ℕ))) (place : Option ℕ)
    → listed ≡ [] → place ≡ None → IsPlaced name frames 0 (texts listed) place
unfolding wanting_place
placed-first name frames listed place none absent =
    ap₂
    (λ o (l : List (Bor (List ℕ))).
    option_or o (option_map (λ (g : Frame). g.place) (first_wanting name (texts l) (map plain_frame frames)))) absent none
