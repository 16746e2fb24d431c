-- Where modules stand that are taken.
use Rattle.std.proofs.Common.{◌≡◌, ℕ, zero, suc, ◌+◌, ◌<◌, ◌≤◌, List, [], ◌∷◌, ◌++◌, length, map, take, drop, get_or}
use Rattle.std.proofs.Common.{slice_get, Option, None, Some, refl, sym, ap, ap₂, subst, ◌∙◌, append_assoc, add-one, arith}
use Rattle.std.proofs.Math.Seq.{drop-cons}
use Rattle.std.proofs.lemmas.List.{append-nil, length-map, map-append, take_more}
use Rattle.std.specs.List.{cons_option, enumerate_from, filter_map}
use Rattle.std.specs.Option.{option_map}
use Rattle.doslink_stock.specs.declared.searching.Place.{Place}
use Rattle.doslink_stock.specs.declared.searching.Place.TheVariants.{Object, Member}
use Rattle.doslink_stock.specs.Placed.{ArePlaced, IsPlaced}
use Rattle.doslink_stock.specs.Files.{Held}
use Rattle.doslink_stock.specs.Search.{TakenFor, candidate, candidates}
use Rattle.omf_place.specs.declared.names.Names.{Names}
use Rattle.omf_search.specs.Said.{Module}
use Rattle.omf_search.specs.Search as search
use Rattle.omf_search.proofs.Slack.{slack, slack-chosen}
use Rattle.omf_search.proofs.TakenSteps.{enumerate-push, length_front, map_more}

pub got-append : {X : Type 0} (xs ys : List X) (i : ℕ) (x : X) → slice_get xs i ≡ Some x → slice_get (xs ++ ys) i ≡ Some x
got-append [] ys i x e = absurd (let u : None ≡ Some x = e in cc)
got-append (y ∷ xs) ys zero x e = e
got-append (y ∷ xs) ys (suc i) x e = got-append xs ys i x e

one-more : (os os' ms ms' : List Held) (p : Place) (t : TakenFor) → IsPlaced os ms p t
    → IsPlaced (os ++ os') (ms ++ ms') p t
one-more os os' ms ms' (Object i) t (at, for) = (got-append os os' i t.held at, for)
one-more os os' ms ms' (Member i name) t (at, for) = (got-append ms ms' i t.held at, for)

-- behind more modules they stand where they stood
pub placed-more : (os os' ms ms' : List Held) (ps : List Place) (ts : List TakenFor) → ArePlaced os ms ps ts
    → ArePlaced (os ++ os') (ms ++ ms') ps ts
placed-more os os' ms ms' [] [] is = tt
placed-more os os' ms ms' [] (t ∷ ts) is = absurd is
placed-more os os' ms ms' (p ∷ ps) [] is = absurd is
placed-more os os' ms ms' (p ∷ ps) (t ∷ ts) (one, others) =
    (one-more os os' ms ms' p t one, placed-more os os' ms ms' ps ts others)

pub placed-push : (os ms : List Held) (ps : List Place) (ts : List TakenFor) (p : Place) (t : TakenFor)
    → ArePlaced os ms ps ts → IsPlaced os ms p t → ArePlaced os ms (ps ++ p ∷ []) (ts ++ t ∷ [])
placed-push os ms [] [] p t is one = (one, tt)
placed-push os ms [] (u ∷ ts) p t is one = absurd is
placed-push os ms (q ∷ ps) [] p t is one = absurd is
placed-push os ms (q ∷ ps) (u ∷ ts) p t (first, others) one = (first, placed-push os ms ps ts p t others one)

pub placed-length : (os ms : List Held) (ps : List Place) (ts : List TakenFor) → ArePlaced os ms ps ts
    → length ps ≡ length ts
placed-length os ms [] [] is = refl
placed-length os ms [] (t ∷ ts) is = absurd is
placed-length os ms (p ∷ ps) [] is = absurd is
placed-length os ms (p ∷ ps) (t ∷ ts) (one, others) = ap suc (placed-length os ms ps ts others)

-- the one at a place, and those behind it
pub placed-at : (os ms : List Held) (ps : List Place) (ts : List TakenFor) (i : ℕ) (d : Place) → ArePlaced os ms ps ts
    → i < length ps → (t : TakenFor) × IsPlaced os ms (get_or ps i d) t × (drop i ts ≡ t ∷ drop (suc i) ts)
placed-at os ms [] ts i d is h = absurd (omega arith)
placed-at os ms (p ∷ ps) [] i d is h = absurd is
placed-at os ms (p ∷ ps) (t ∷ ts) zero d (one, others) h = (t, one, refl)
placed-at os ms (p ∷ ps) (t ∷ ts) (suc i) d (one, others) h =
    placed-at os ms ps ts i d others (let g : i < length ps = omega arith in g)

-- ---- candidates

pub candidates-push : (held : List Held) (h : Held)
    → candidates (held ++ h ∷ []) ≡ candidates held ++ candidate (length held, h) ∷ []
candidates-push held h =
    let z : 0 + length held ≡ length held = omega arith in
    ap (map candidate) (enumerate-push 0 held h)
    ∙ map-append candidate (enumerate_from 0 held) ((0 + length held, h) ∷ [])
    ∙ ap (λ n. candidates held ++ candidate (n, h) ∷ []) z

at-from : (n : ℕ) (held : List Held) (i : ℕ)
    → slice_get (map candidate (enumerate_from n held)) i ≡ option_map (λ h. candidate (n + i, h)) (slice_get held i)
at-from n [] i = refl
at-from n (h ∷ held) zero = let z : n ≡ n + 0 = omega arith in ap (λ k. Some (candidate (k, h))) z
at-from n (h ∷ held) (suc i) =
    let z : (n + 1) + i ≡ n + suc i = omega arith in
    at-from (n + 1) held i ∙ ap (λ k. option_map (λ x. candidate (k, x)) (slice_get held i)) z

pub candidates-at : (held : List Held) (i : ℕ)
    → slice_get (candidates held) i ≡ option_map (λ h. candidate (i, h)) (slice_get held i)
candidates-at held i =
    let z : 0 + i ≡ i = omega arith in
    at-from 0 held i ∙ ap (λ k. option_map (λ x. candidate (k, x)) (slice_get held i)) z

candidates-len : (n : ℕ) (held : List Held) → length (map candidate (enumerate_from n held)) ≡ length held
candidates-len n [] = refl
candidates-len n (h ∷ held) = ap suc (candidates-len (n + 1) held)

pub candidates-length : (held : List Held) → length (candidates held) ≡ length held
candidates-length held = candidates-len 0 held

-- ---- items of what the code holds

pub got-at : {X : Type 0} (f : X → Held) (xs : List X) (i : ℕ) (x : X) → i < length xs → x ≡ get_or xs i x
    → slice_get (map f xs) i ≡ Some (f x)
got-at f [] i x h e = absurd (omega arith)
got-at f (y ∷ xs) zero x h e = ap (λ z. Some (f z)) (sym e)
got-at f (y ∷ xs) (suc i) x h e = got-at f xs i x (let g : i < length xs = omega arith in g) e

pub front-length : {X : Type 0} (f : X → Held) (xs : List X) (i : ℕ) → i < length xs
    → length (candidates (map f (take i xs))) ≡ i
front-length f xs i h = candidates-length (map f (take i xs)) ∙ length_front f xs i h

pub candidates-more : {X : Type 0} (f : X → Held) (xs : List X) (i : ℕ) (x : X) → i < length xs → x ≡ get_or xs i x
    → candidates (map f (take (i + 1) xs)) ≡ candidates (map f (take i xs)) ++ candidate (i, f x) ∷ []
candidates-more f xs i x h e =
    ap candidates (map_more f xs i x h ∙ ap (λ y. map f (take i xs) ++ f y ∷ []) (sym e))
    ∙ candidates-push (map f (take i xs)) (f x)
    ∙ ap (λ n. candidates (map f (take i xs)) ++ candidate (n, f x) ∷ []) (length_front f xs i h)

pub got-none : {X : Type 0} (f : X → Held) (xs : List X) (i : ℕ) → length xs ≤ i → slice_get (map f xs) i ≡ None
got-none f [] i h = refl
got-none f (x ∷ xs) zero h = absurd (omega arith)
got-none f (x ∷ xs) (suc i) h = got-none f xs i (let g : length xs ≤ i = omega arith in g)

cons-append : {X : Type 0} (o : Option X) (xs ys : List X) → cons_option o (xs ++ ys) ≡ cons_option o xs ++ ys
cons-append None xs ys = refl
cons-append (Some x) xs ys = refl

pub filter_map-push : {X Y : Type 0} (f : X → Option Y) (xs : List X) (x : X) (y : Y) → f x ≡ Some y
    → filter_map f (xs ++ x ∷ []) ≡ filter_map f xs ++ y ∷ []
filter_map-push f [] x y e = ap (λ o. cons_option o []) e
filter_map-push f (z ∷ xs) x y e =
    ap (cons_option (f z)) (filter_map-push f xs x y e) ∙ cons-append (f z) (filter_map f xs) (y ∷ [])

-- where members bring nothing, none is chosen
pub brings-nothing : (names : Names) (bs : List search.Member) (ms : List Module) → slack names ms bs ≤ 0
    → search.next_choice names bs ms ≡ None
brings-nothing names bs ms h = of (search.next_choice names bs ms) refl
  where
    of : (o : Option search.Choice) → search.next_choice names bs ms ≡ o → o ≡ None
    of None e = refl
    of (Some c) e = absurd (let less = slack-chosen names ms bs c e in omega (arith, less, h))

-- ---- files behind others

pub map-drop : {X Y : Type 0} (f : X → Y) (n : ℕ) (xs : List X) → map f (drop n xs) ≡ drop n (map f xs)
map-drop f zero xs = refl
map-drop f (suc n) [] = refl
map-drop f (suc n) (x ∷ xs) = map-drop f n xs

pub map-take : {X Y : Type 0} (f : X → Y) (n : ℕ) (xs : List X) → map f (take n xs) ≡ take n (map f xs)
map-take f zero xs = refl
map-take f (suc n) [] = refl
map-take f (suc n) (x ∷ xs) = ap (λ l. f x ∷ l) (map-take f n xs)

pub drop-front : {X : Type 0} (front more : List X) (n : ℕ) → n ≡ length front → drop n (front ++ more) ≡ more
drop-front front more n e = ap (λ k. drop k (front ++ more)) e ∙ by front
  where
    by : (front : List _) → drop (length front) (front ++ more) ≡ more
    by [] = refl
    by (x ∷ front) = by front

pub take-front : {X : Type 0} (front more : List X) (n : ℕ) → n ≡ length front → take n (front ++ more) ≡ front
take-front front more n e = ap (λ k. take k (front ++ more)) e ∙ by front
  where
    by : (front : List _) → take (length front) (front ++ more) ≡ front
    by [] = refl
    by (x ∷ front) = ap (λ l. x ∷ l) (by front)
