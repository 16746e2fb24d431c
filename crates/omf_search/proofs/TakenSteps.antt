-- Modules taken one after the other.
use Rattle.std.proofs.Common.{◌≡◌, ℕ, ◌+◌, ◌<◌, Bool, true, false, cond, ◌||◌, List, [], ◌∷◌, ◌++◌, length, map, take}
use Rattle.std.proofs.Common.{get_or, Option, Some, None, is_some, refl, ap, sym, ◌∙◌, arith, length-take}
use Rattle.std.proofs.lemmas.List.{append-nil, length-map, map-append, take_more}
use Rattle.std.proofs.lemmas.List.Folds.{list_any-append}
use Rattle.std.proofs.lemmas.Grind.{flat_map-append}
use Rattle.std.specs.Borrow.{Bor}
use Rattle.std.specs.List.{enumerate_from, flat_map, list_any}
use Rattle.std.specs.Option.{option_or}
use Rattle.omf_place.specs.Names.{agrees}
use Rattle.omf_place.specs.declared.names.Names.{Names}
use Rattle.omf_search.specs.Results.{bytes_of}
use Rattle.omf_search.specs.Said.{Module, defines, is_defined}

-- one more of the elements of a list, under a map
pub map_more : {X Y : Type 0} (f : X → Y) (xs : List X) (i : ℕ) (d : X) → i < length xs
    → map f (take (i + 1) xs) ≡ map f (take i xs) ++ f (get_or xs i d) ∷ []
map_more f xs i d h = ap (map f) (take_more xs i d h) ∙ map-append f (take i xs) (get_or xs i d ∷ [])

pub length_front : {X Y : Type 0} (f : X → Y) (xs : List X) (i : ℕ) → i < length xs → length (map f (take i xs)) ≡ i
length_front f xs i h = length-map (take i xs) f ∙ omega (arith, length-take i xs)

or-false : (b : Bool) → (b || false) ≡ b
or-false true = refl
or-false false = refl

pub two_hits : {X : Type 0} (v : X) (a : Option X) (one other : Bool)
    → option_or (option_or a (cond one (Some v) None)) (cond other (Some v) None)
    ≡ option_or a (cond (one || other) (Some v) None)
two_hits v (Some x) one other = refl
two_hits v None true other = refl
two_hits v None false other = refl

pub is_some-added : {X : Type 0} (v : X) (hit : Bool) (o : Option X)
    → is_some (option_or o (cond hit (Some v) None)) ≡ (is_some o || hit)
is_some-added v true None = refl
is_some-added v false None = refl
is_some-added v hit (Some x) = refl

or-apart : (a b c : Bool) → ((a || b) || c) ≡ (a || (b || (c || false)))
or-apart true b c = refl
or-apart false true c = refl
or-apart false false true = refl
or-apart false false false = refl

-- one more name that is there
pub there-turn : {V : Type 0} (names : Names) (q d : Bor (List ℕ)) (more : List (Bor (List ℕ))) (i : ℕ) (v : V)
    (start : Bool) (was here : Option V) → i < length more →
    is_some was ≡ (start || list_any (agrees names q.now) (bytes_of (take i more))) →
    here ≡ option_or was (cond (agrees names q.now (get_or more i d).now) (Some v) None) →
    is_some here ≡ (start || list_any (agrees names q.now) (bytes_of (take (i + 1) more)))
there-turn names q d more i v start was here h earlier is =
    let n = get_or more i d in
    let front = bytes_of (take i more) in
    let longer : bytes_of (take (i + 1) more) ≡ front ++ n.now ∷ [] = map_more (λ b. b.now) more i d h in
    ap is_some is ∙ is_some-added v (agrees names q.now n.now) was
    ∙ ap (λ b. b || agrees names q.now n.now) earlier
    ∙ or-apart start (list_any (agrees names q.now) front) (agrees names q.now n.now)
    ∙ ap (λ b. start || b)
    (sym (ap (list_any (agrees names q.now)) longer ∙ list_any-append (agrees names q.now) front (n.now ∷ [])))

-- one more name that has a value, unless it has one
pub value-turn : {V : Type 0} (names : Names) (q d : Bor (List ℕ)) (more : List (Bor (List ℕ))) (i : ℕ) (v : V)
    (start was here : Option V) → i < length more →
    was ≡ option_or start (cond (list_any (agrees names q.now) (bytes_of (take i more))) (Some v) None) →
    here ≡ option_or was (cond (agrees names q.now (get_or more i d).now) (Some v) None) →
    here ≡ option_or start (cond (list_any (agrees names q.now) (bytes_of (take (i + 1) more))) (Some v) None)
value-turn names q d more i v start was here h earlier is =
    let n = get_or more i d in
    let front = bytes_of (take i more) in
    let longer : bytes_of (take (i + 1) more) ≡ front ++ n.now ∷ [] = map_more (λ b. b.now) more i d h in
    is ∙ ap (λ o. option_or o (cond (agrees names q.now n.now) (Some v) None)) earlier
    ∙ two_hits v start (list_any (agrees names q.now) front) (agrees names q.now n.now)
    ∙ ap (λ b. option_or start (cond b (Some v) None))
    (ap (λ b. list_any (agrees names q.now) front || b) (sym (or-false (agrees names q.now n.now)))
    ∙ sym (ap (list_any (agrees names q.now)) longer ∙ list_any-append (agrees names q.now) front (n.now ∷ [])))

-- the same of no name so far
pub value-first : {V : Type 0} (v : V) (start : Option V) → start ≡ option_or start (cond false (Some v) None)
value-first v (Some x) = refl
value-first v None = refl

pub enumerate-push : {X : Type 0} (k : ℕ) (xs : List X) (x : X)
    → enumerate_from k (xs ++ x ∷ []) ≡ enumerate_from k xs ++ (k + length xs, x) ∷ []
enumerate-push k [] x = let e : k ≡ k + 0 = omega arith in ap (λ n. (n, x) ∷ []) e
enumerate-push k (y ∷ ys) x =
    let e : (k + 1) + length ys ≡ k + length (y ∷ ys) = omega arith in
    ap (λ ps. (k, y) ∷ ps) (enumerate-push (k + 1) ys x ∙ ap (λ n. enumerate_from (k + 1) ys ++ (n, x) ∷ []) e)

-- what is told of each element and its index, with one more
pub flat-push : {X Y : Type 0} (f : ℕ × X → List Y) (xs : List X) (x : X)
    → flat_map f (enumerate_from 0 (xs ++ x ∷ [])) ≡ flat_map f (enumerate_from 0 xs) ++ f (length xs, x)
flat-push f xs x =
    let e : 0 + length xs ≡ length xs = omega arith in
    ap (flat_map f) (enumerate-push 0 xs x)
    ∙ flat_map-append f (enumerate_from 0 xs) ((0 + length xs, x) ∷ [])
    ∙ ap (λ ys. flat_map f (enumerate_from 0 xs) ++ ys) (append-nil (f (0 + length xs, x)) ∙ ap (λ n. f (n, x)) e)

-- what modules define, with one more
pub is_defined-push : (names : Names) (ms : List Module) (m : Module) (name : List ℕ)
    → is_defined names (ms ++ m ∷ []) name ≡ (is_defined names ms name || defines names name m)
is_defined-push names ms m name =
    list_any-append (defines names name) ms (m ∷ [])
    ∙ ap (λ b. is_defined names ms name || b) (or-false (defines names name m))
