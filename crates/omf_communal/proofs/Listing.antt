-- What modules declare and offer, one after the other.
use Rattle.std.proofs.Common.{◌≡◌, ℕ, ◌+◌, ◌<◌, Bool, true, false, cond, ◌||◌, List, [], ◌∷◌, ◌++◌, length, map, filter}
use Rattle.std.proofs.Common.{take, get_or, refl, ap, sym, ◌∙◌, append_assoc, arith, length-take}
use Rattle.std.proofs.lemmas.List.{append-nil, length-map, map-append, take_more}
use Rattle.std.proofs.lemmas.List.Elements.{filter-append}
use Rattle.std.proofs.lemmas.List.Folds.{list_any-append}
use Rattle.std.proofs.lemmas.Grind.{flat_map-append}
use Rattle.std.specs.Borrow.{Bor}
use Rattle.std.specs.List.{enumerate_from, flat_map, list_any}
use Rattle.omf_place.specs.Names.{agrees}
use Rattle.omf_place.specs.declared.names.Names.{Names}
use Rattle.omf_keys.specs.declared.key.Key.{Key}
use Rattle.omf_communal.specs.declared.declarations.Declaring.{Declaring}
use Rattle.omf_communal.specs.declared.declarations.Communal as lent
use Rattle.omf_communal.specs.Modules.{Declared, Module, all_declared, bytes_of, declared_at, declared_of, is_offered}
use Rattle.omf_communal.specs.Modules.{module_said, offers}
use Rattle.omf_communal.specs.Reading.{Communal, plain_communal}
use Rattle.omf_keys.specs.Keys.{key_of, same_key}
use Rattle.omf_keys.proofs.Agreeing.{keys_agree, names_agree}

-- one more of the elements of a list, under a map
pub map_more : {X Y : Type 0} (f : X → Y) (xs : List X) (i : ℕ) (d : X) → i < length xs
    → map f (take (i + 1) xs) ≡ map f (take i xs) ++ f (get_or xs i d) ∷ []
map_more f xs i d h = ap (map f) (take_more xs i d h) ∙ map-append f (take i xs) (get_or xs i d ∷ [])

-- that element under another name
pub map_one : {X Y : Type 0} (f : X → Y) (xs : List X) (i : ℕ) (x : X) → i < length xs → x ≡ get_or xs i x
    → map f (take (i + 1) xs) ≡ map f (take i xs) ++ f x ∷ []
map_one f xs i x h e = map_more f xs i x h ∙ ap (λ y. map f (take i xs) ++ f y ∷ []) (sym e)

pub length_front : {X Y : Type 0} (f : X → Y) (xs : List X) (i : ℕ) → i < length xs → length (map f (take i xs)) ≡ i
length_front f xs i h = length-map (take i xs) f ∙ omega (arith, length-take i xs)

either : (hit start any : Bool) → cond hit true (start || any) ≡ (start || (any || (hit || false)))
either true true any = refl
either true false true = refl
either true false false = refl
either false true any = refl
either false false true = refl
either false false false = refl

-- one more offered name
pub offered-turn : (names : Names) (q d : Bor (List ℕ)) (more : List (Bor (List ℕ))) (i : ℕ) (key : Key)
    (start was here : Bool) → i < length more → key ≡ key_of names (get_or more i d) →
    was ≡ (start || list_any (agrees names q.now) (bytes_of (take i more))) →
    here ≡ cond (same_key key (key_of names q)) true was →
    here ≡ (start || list_any (agrees names q.now) (bytes_of (take (i + 1) more)))
offered-turn names q d more i key start was here h e earlier is =
    let n = get_or more i d in
    let hit : same_key key (key_of names q) ≡ agrees names q.now n.now =
    ap (λ k. same_key k (key_of names q)) e ∙ keys_agree names n q ∙ (names_agree names).symm n.now q.now in
    let front = bytes_of (take i more) in
    let longer : bytes_of (take (i + 1) more) ≡ front ++ n.now ∷ [] = map_more (λ b. b.now) more i d h in
    is ∙ ap (λ b. cond b true was) hit ∙ ap (λ b. cond (agrees names q.now n.now) true b) earlier
    ∙ either (agrees names q.now n.now) start (list_any (agrees names q.now) front)
    ∙ ap (λ b. start || b)
    (sym (ap (list_any (agrees names q.now)) longer ∙ list_any-append (agrees names q.now) front (n.now ∷ [])))

or-false : (b : Bool) → (b || false) ≡ b
or-false true = refl
or-false false = refl

-- one more module's offers
pub offers-turn : (names : Names) (name : List ℕ) (modules : List Declaring) (i : ℕ) (x : Declaring) (old new : Bool) →
    i < length modules → x ≡ get_or modules i x →
    old ≡ is_offered names (map module_said (take i modules)) name →
    new ≡ (old || list_any (agrees names name) (bytes_of x.offered.now)) →
    new ≡ is_offered names (map module_said (take (i + 1) modules)) name
offers-turn names name modules i x old new h e was is =
    let m = module_said x in
    is ∙ ap (λ b. b || offers names name m) was
    ∙ sym (ap (λ ms. is_offered names ms name) (map_one module_said modules i x h e)
    ∙ list_any-append (offers names name) (map module_said (take i modules)) (m ∷ [])
    ∙ ap (λ b. is_offered names (map module_said (take i modules)) name || b) (or-false (offers names name m)))

pub enumerate-push : {X : Type 0} (k : ℕ) (xs : List X) (x : X)
    → enumerate_from k (xs ++ x ∷ []) ≡ enumerate_from k xs ++ (k + length xs, x) ∷ []
enumerate-push k [] x = let e : k ≡ k + 0 = omega arith in ap (λ n. (n, x) ∷ []) e
enumerate-push k (y ∷ ys) x =
    let e : (k + 1) + length ys ≡ k + length (y ∷ ys) = omega arith in
    ap (λ ps. (k, y) ∷ ps) (enumerate-push (k + 1) ys x ∙ ap (λ n. enumerate_from (k + 1) ys ++ (n, x) ∷ []) e)

enumerate-more : {X Y : Type 0} (f : X → Y) (xs : List X) (i : ℕ) (x : X) → i < length xs → x ≡ get_or xs i x →
    enumerate_from 0 (map f (take (i + 1) xs)) ≡ enumerate_from 0 (map f (take i xs)) ++ (i, f x) ∷ []
enumerate-more f xs i x h is =
    let e : 0 + length (map f (take i xs)) ≡ i = omega (arith, length_front f xs i h) in
    ap (enumerate_from 0) (map_one f xs i x h is) ∙ enumerate-push 0 (map f (take i xs)) (f x)
    ∙ ap (λ n. enumerate_from 0 (map f (take i xs)) ++ (n, f x) ∷ []) e

-- one more variable of a module
pub declared-turn : (index : ℕ) (cs : List lent.Communal) (i : ℕ) (x : lent.Communal) (start old new : List Declared) →
    i < length cs → x ≡ get_or cs i x →
    old ≡ start ++ map (declared_at index) (enumerate_from 0 (map plain_communal (take i cs))) →
    new ≡ old ++ declared_at index (i, plain_communal x) ∷ [] →
    new ≡ start ++ map (declared_at index) (enumerate_from 0 (map plain_communal (take (i + 1) cs)))
declared-turn index cs i x start old new h e was is =
    let f : ℕ × Communal → Declared = declared_at index in
    let front : List (ℕ × Communal) = enumerate_from 0 (map plain_communal (take i cs)) in
    let y : ℕ × Communal = (i, plain_communal x) in
    is ∙ ap (λ xs. xs ++ f y ∷ []) was ∙ append_assoc start (map f front) (f y ∷ [])
    ∙ ap (λ xs. start ++ xs) (sym (ap (map f) (enumerate-more plain_communal cs i x h e) ∙ map-append f front (y ∷ [])))

-- one more module's variables
pub module-turn : (modules : List Declaring) (i : ℕ) (x : Declaring) (old new : List Declared) → i < length modules →
    x ≡ get_or modules i x →
    old ≡ all_declared (map module_said (take i modules)) →
    new ≡ old ++ declared_of (i, module_said x) →
    new ≡ all_declared (map module_said (take (i + 1) modules))
module-turn modules i x old new h e was is =
    let front : List (ℕ × Module) = enumerate_from 0 (map module_said (take i modules)) in
    let y : ℕ × Module = (i, module_said x) in
    is ∙ ap (λ xs. xs ++ declared_of y) was
    ∙ sym
    (ap (flat_map declared_of) (enumerate-more module_said modules i x h e) ∙ flat_map-append declared_of front (y ∷ [])
    ∙ ap (λ ys. flat_map declared_of front ++ ys) (append-nil (declared_of y)))

-- one more that passes a test
pub passing-turn : {X Y : Type 0} (f : X → Y) (test : Y → Bool) (xs : List X) (i : ℕ) (x : X) (old new : List Y) →
    i < length xs → x ≡ get_or xs i x → test (f x) ≡ true →
    old ≡ filter test (map f (take i xs)) → new ≡ old ++ f x ∷ [] → new ≡ filter test (map f (take (i + 1) xs))
passing-turn f test xs i x old new h e t was is =
    is ∙ ap (λ ys. ys ++ f x ∷ []) was
    ∙ sym (ap (filter test) (map_one f xs i x h e) ∙ filter-append test (map f (take i xs)) (f x ∷ [])
    ∙ ap (λ b. filter test (map f (take i xs)) ++ cond b (f x ∷ []) []) t)

-- one more that doesn't
pub failing-turn : {X Y : Type 0} (f : X → Y) (test : Y → Bool) (xs : List X) (i : ℕ) (x : X) (old : List Y) →
    i < length xs → x ≡ get_or xs i x → test (f x) ≡ false →
    old ≡ filter test (map f (take i xs)) → old ≡ filter test (map f (take (i + 1) xs))
failing-turn f test xs i x old h e t was =
    was
    ∙ sym (ap (filter test) (map_one f xs i x h e) ∙ filter-append test (map f (take i xs)) (f x ∷ [])
    ∙ ap (λ b. filter test (map f (take i xs)) ++ cond b (f x ∷ []) []) t
    ∙ append-nil (filter test (map f (take i xs))))
