-- Offered names that are like others, one after the other.
use Rattle.std.proofs.Common.{◌≡◌, ℕ, ◌+◌, ◌<◌, ◌≤◌, Bool, true, false, cond, ◌&&◌, ◌||◌, eqb, List, [], ◌∷◌}
use Rattle.std.proofs.Common.{◌++◌, length, map, take, get_or, slice_get, Option, Some, None, IfSome}
use Rattle.std.proofs.Common.{MatchOption, HoldsAt, option_copied, refl, ap, sym, subst, ◌∙◌, append_assoc, arith}
use Rattle.std.proofs.lemmas.List.{append-nil, map-append, take_all}
use Rattle.std.proofs.lemmas.Bool.{eqb-true}
use Rattle.std.proofs.lemmas.Bool.Decides.{nat_tests}
use Rattle.std.proofs.lemmas.Grind.{flat_map-append}
use Rattle.std.proofs.lemmas.Option.{slice_get-map, slice_get_past, slice_get_read}
use Rattle.std.specs.Borrow.{Bor}
use Rattle.std.specs.Char.{to_ascii_lowercase}
use Rattle.std.specs.List.{enumerate_from, find, flat_map}
use Rattle.std.specs.Option.{option_map, option_or}
use Rattle.std.specs.Str.{bytes_eq}
use Rattle.omf_place.specs.Names.{agrees}
use Rattle.omf_place.specs.inside.Named.{folded}
use Rattle.omf_place.specs.declared.names.Names.TheVariants as by
use Rattle.omf_search.specs.declared.likeness.Whose.TheVariants as whose
use Rattle.omf_search.specs.declared.likeness.Offered as held
use Rattle.omf_search.specs.inside.Likeness.{behind, is_behind, lesser, like_among}
use Rattle.omf_search.specs.Places.{place_from}
use Rattle.omf_search.specs.Likeness.{Offered, is_like, offered_names, offered_of}
use Rattle.omf_search.specs.declared.said.Member as held_member
use Rattle.omf_search.specs.declared.said.Said as held_said
use Rattle.omf_search.specs.Results.{bytes_of, member_said, module_said, offered_said}
use Rattle.omf_search.specs.Said.{Module}
use Rattle.omf_search.specs.Search.{Member}
use Rattle.omf_keys.proofs.Agreeing.{names_agree}
use Rattle.omf_search.proofs.Placing.{found_place, place_from-le, place_from-more}
use Rattle.omf_search.proofs.TakenSteps.{flat-push, length_front, map_more, two_hits}

pub one_hit : {X : Type 0} (v : X) (a : Option X) (one : Bool)
    → option_or a (cond one (Some v) None) ≡ option_or a (cond (one || false) (Some v) None)
one_hit v a true = refl
one_hit v a false = refl

-- an underscore has no other case
under-lower : (b : ℕ) → eqb 95 (to_ascii_lowercase b) ≡ eqb b 95
under-lower b = grind (arith, nat_tests)

pub behind-is : (name rest : List ℕ) → behind name ≡ Some rest → name ≡ 95 ∷ rest
behind-is [] rest e = absurd (let u : None ≡ Some rest = e in cc)
behind-is (b ∷ bs) rest e =
    (elim (eqb b 95) as (λ t. eqb b 95 ≡ t → cond t (Some bs) None ≡ Some rest → b ∷ bs ≡ 95 ∷ rest) [
      | true ↦ λ t u. let first : b ≡ 95 = eqb-true b 95 t in let others : bs ≡ rest = cc in λ i. first i ∷ others i
      | false ↦ λ t u. cc
    ]) refl e

pub behind-none : (one name : List ℕ) → behind name ≡ None → agrees by.AsciiFolded (95 ∷ one) name ≡ false
behind-none one [] e = refl
behind-none one (b ∷ bs) e =
    let other : eqb b 95 ≡ false =
    (elim (eqb b 95) as (λ t. cond t (Some bs) None ≡ None → t ≡ false) [ true ↦ λ u. cc | false ↦ λ u. refl ]) e in
    ap (λ t. t && bytes_eq (folded one) (folded bs)) (under-lower b ∙ other)

lesser-first : (n : ℕ) (o : Option ℕ) → ((k : ℕ) → o ≡ Some k → n ≤ k) → lesser (Some n) o ≡ Some n
lesser-first n None h = refl
lesser-first n (Some k) h = let above = h k refl in ap (λ m. Some m) (omega arith)

lesser-second : (n : ℕ) (o : Option ℕ) → ((k : ℕ) → o ≡ Some k → n ≤ k) → lesser o (Some n) ≡ Some n
lesser-second n None h = refl
lesser-second n (Some k) h = let above = h k refl in ap (λ m. Some m) (omega arith)

-- the place of the first that passes one of two tests
lesser-places : {X : Type 0} (n : ℕ) (p q : X → Bool) (xs : List X)
    → lesser (place_from n p xs) (place_from n q xs) ≡ place_from n (λ x. p x || q x) xs
lesser-places n p q [] = refl
lesser-places {X = X} n p q (x ∷ xs) =
    let later : (test : X → Bool) (k : ℕ) → place_from (n + 1) test xs ≡ Some k → n ≤ k =
    λ test k e. (let more = place_from-le (n + 1) test xs k e in omega arith) in
    (elim (p x) as (λ b.
    lesser (cond b (Some n) (place_from (n + 1) p xs)) (place_from n q (x ∷ xs))
    ≡ cond (b || q x) (Some n) (place_from (n + 1) (λ x. p x || q x) xs)) [
      | true ↦
          (elim (q x) as (λ c. lesser (Some n) (cond c (Some n) (place_from (n + 1) q xs)) ≡ Some n) [
            | true ↦ lesser-first n (Some n) (λ k e. (let same : n ≡ k = cc in omega arith))
            | false ↦ lesser-first n (place_from (n + 1) q xs) (later q)
          ])
      | false ↦
          (elim (q x) as (λ c.
          lesser (place_from (n + 1) p xs) (cond c (Some n) (place_from (n + 1) q xs))
          ≡ cond c (Some n) (place_from (n + 1) (λ x. p x || q x) xs)) [
            | true ↦ lesser-second n (place_from (n + 1) p xs) (later p)
            | false ↦ lesser-places (n + 1) p q xs
          ])
    ])

place_from-same : {X : Type 0} (p q : X → Bool) (xs : List X) → ((x : X) → p x ≡ q x)
    → place_from 0 p xs ≡ place_from 0 q xs
place_from-same p q xs h = let same : p ≡ q = λ j. λ x. h x j in ap (λ t. place_from 0 t xs) same

tests_with : (a b d : Bool) → ((a || b) || (d || a)) ≡ (a || (b || d))
tests_with true b d = refl
tests_with false true d = refl
tests_with false false true = refl
tests_with false false false = refl

or-false : (b : Bool) → (b || false) ≡ b
or-false true = refl
or-false false = refl

-- a name with an underscore in front is like those that it or its rest is, also behind another underscore
pub like_with : (name rest : List ℕ) (os : List Offered) → name ≡ 95 ∷ rest →
    lesser (place_from 0 (λ o. is_behind name o.name) os) (place_from 0 (λ o. is_behind rest o.name) os)
    ≡ place_from 0 (λ o. is_like name o.name) os
like_with name rest os e =
    subst
    (λ n.
    lesser (place_from 0 (λ o. is_behind n o.name) os) (place_from 0 (λ o. is_behind rest o.name) os)
    ≡ place_from 0 (λ o. is_like n o.name) os) (sym e)
    (lesser-places 0 (λ o. is_behind (95 ∷ rest) o.name) (λ o. is_behind rest o.name) os
    ∙ place_from-same (λ o. is_behind (95 ∷ rest) o.name || is_behind rest o.name) (λ o. is_like (95 ∷ rest) o.name) os
    (λ o.
    tests_with (agrees by.AsciiFolded (95 ∷ rest) o.name) (agrees by.AsciiFolded (95 ∷ 95 ∷ rest) o.name)
    (agrees by.AsciiFolded rest o.name)))

-- one without is like those that it is
pub like_without : (name : List ℕ) (os : List Offered) → behind name ≡ None
    → place_from 0 (λ o. is_behind name o.name) os ≡ place_from 0 (λ o. is_like name o.name) os
like_without name os e =
    place_from-same (λ o. is_behind name o.name) (λ o. is_like name o.name) os
    (λ o.
    let never : agrees by.AsciiFolded name (95 ∷ o.name) ≡ false =
    (names_agree by.AsciiFolded).symm name (95 ∷ o.name) ∙ behind-none o.name name e in
    ap (λ b. agrees by.AsciiFolded name o.name || b)
    (sym
    (ap (λ b. agrees by.AsciiFolded (95 ∷ name) o.name || b) never
    ∙ or-false (agrees by.AsciiFolded (95 ∷ name) o.name))))

-- what modules offer, with one more
pub modules-push : (ms : List Module) (m : Module) →
    flat_map (λ p. offered_of (whose.Module p.0) p.1) (enumerate_from 0 (ms ++ m ∷ []))
    ≡ flat_map (λ p. offered_of (whose.Module p.0) p.1) (enumerate_from 0 ms) ++ offered_of (whose.Module (length ms)) m
modules-push ms m = flat-push (λ p. offered_of (whose.Module p.0) p.1) ms m

-- what members offer behind them, with one more
pub members-push : (ms : List Module) (bs : List Member) (b : Member)
    → offered_names ms (bs ++ b ∷ []) ≡ offered_names ms bs ++ offered_of (whose.Member b.library b.member) b.says
members-push ms bs b =
    let f : ℕ × Module → List Offered = λ p. offered_of (whose.Module p.0) p.1 in
    let g : Member → List Offered = λ b. offered_of (whose.Member b.library b.member) b.says in
    ap (λ os. flat_map f (enumerate_from 0 ms) ++ os)
    (flat_map-append g bs (b ∷ []) ∙ ap (λ os. flat_map g bs ++ os) (append-nil (g b)))
    ∙ sym (append_assoc (flat_map f (enumerate_from 0 ms)) (flat_map g bs) (g b))

-- the offered name at its place
pub like_found : (test : Offered → Bool) (offered : List held.Offered) (place : ℕ) (o : Option held.Offered) →
    o ≡ slice_get offered place → Some place ≡ place_from 0 test (map offered_said offered) →
    option_map offered_said o ≡ find test (map offered_said offered)
like_found test offered place o e at =
    ap (option_map offered_said) e
    ∙ sym (found_place test (map offered_said offered) (Some place) at ∙ slice_get-map offered_said offered place)

pub like_unfound : (test : Offered → Bool) (offered : List held.Offered)
    → None ≡ place_from 0 test (map offered_said offered) → None ≡ find test (map offered_said offered)
like_unfound test offered at = sym (found_place test (map offered_said offered) None at)

-- what one more module offers
pub module-turn : (modules : List held_said.Said) (i : ℕ) (d : held_said.Said) (old new : List Offered) →
    i < length modules →
    old ≡ flat_map (λ p. offered_of (whose.Module p.0) p.1) (enumerate_from 0 (map module_said (take i modules))) →
    new ≡ old ++ offered_of (whose.Module i) (module_said (get_or modules i d)) →
    new ≡ flat_map (λ p. offered_of (whose.Module p.0) p.1) (enumerate_from 0 (map module_said (take (i + 1) modules)))
module-turn modules i d old new h was is =
    let f : ℕ × Module → List Offered = λ p. offered_of (whose.Module p.0) p.1 in
    let front = map module_said (take i modules) in
    let m = module_said (get_or modules i d) in
    is ∙ ap (λ os. os ++ offered_of (whose.Module i) m) was
    ∙ ap (λ k. flat_map f (enumerate_from 0 front) ++ offered_of (whose.Module k) m)
    (sym (length_front module_said modules i h))
    ∙ sym (modules-push front m)
    ∙ ap (λ ms. flat_map f (enumerate_from 0 ms)) (sym (map_more module_said modules i d h))

-- what one more member offers
pub member-turn : (ms : List Module) (members : List held_member.Member) (i : ℕ) (d : held_member.Member)
    (old new : List Offered) → i < length members →
    old ≡ offered_names ms (map member_said (take i members)) →
    new ≡ old
    ++ offered_of (whose.Member (get_or members i d).library (get_or members i d).member)
    (module_said (get_or members i d).says) →
    new ≡ offered_names ms (map member_said (take (i + 1) members))
member-turn ms members i d old new h was is =
    let b = member_said (get_or members i d) in
    is ∙ ap (λ os. os ++ offered_of (whose.Member b.library b.member) b.says) was
    ∙ sym (members-push ms (map member_said (take i members)) b)
    ∙ ap (offered_names ms) (sym (map_more member_said members i d h))

-- an element that is looked up
pub item-copied : {X : Type 0} (xs : List X) (i : ℕ) (r : Option (Bor X)) → IfSome r (λ x. x.now ≡ get_or xs i x.now) →
    MatchOption r (length xs ≤ i) (λ x. (i < length xs) × HoldsAt (λ y. x.now ≡ y) xs i) →
    option_copied r ≡ slice_get xs i
item-copied xs i None e m = sym (slice_get_past xs i m)
item-copied xs i (Some x) e m = sym (slice_get_read xs (length xs) i x.now refl m.0 e)

-- one more name that is asked for
pub like-turn : (os : List Offered) (asked : List (Bor (List ℕ))) (i : ℕ) (d : Bor (List ℕ))
    (old : List (Option held.Offered)) (like : Option held.Offered) → i < length asked →
    map (option_map offered_said) old ≡ map (like_among os) (bytes_of (take i asked)) →
    option_map offered_said like ≡ like_among os (get_or asked i d).now →
    map (option_map offered_said) (old ++ like ∷ []) ≡ map (like_among os) (bytes_of (take (i + 1) asked))
like-turn os asked i d old like h was is =
    let n = get_or asked i d in
    let more : bytes_of (take (i + 1) asked) ≡ bytes_of (take i asked) ++ n.now ∷ [] =
    map_more (λ b. b.now) asked i d h in
    map-append (option_map offered_said) old (like ∷ [])
    ∙ ap (λ ls. ls ++ option_map offered_said like ∷ []) was
    ∙ ap (λ o. map (like_among os) (bytes_of (take i asked)) ++ o ∷ []) is
    ∙ sym (ap (map (like_among os)) more ∙ map-append (like_among os) (bytes_of (take i asked)) (n.now ∷ []))

-- what all modules offer
pub modules_all : (modules : List held_said.Said) (i : ℕ) (os : List Offered) → length modules ≤ i →
    os ≡ flat_map (λ p. offered_of (whose.Module p.0) p.1) (enumerate_from 0 (map module_said (take i modules))) →
    os ≡ offered_names (map module_said modules) []
modules_all modules i os h e =
    e ∙ ap (λ xs. flat_map (λ p. offered_of (whose.Module p.0) p.1) (enumerate_from 0 (map module_said xs)))
    (take_all i modules h)
    ∙ sym (append-nil (flat_map (λ p. offered_of (whose.Module p.0) p.1) (enumerate_from 0 (map module_said modules))))

-- one more offered name in the index
pub index-turn : (q : List ℕ) (offered : List held.Offered) (i : ℕ) (d : held.Offered) (old new : Option ℕ) →
    i < length offered →
    old ≡ place_from 0 (λ o. is_behind q o.name) (map offered_said (take i offered)) →
    new ≡ option_or old (cond (is_behind q (get_or offered i d).name.now) (Some i) None) →
    new ≡ place_from 0 (λ o. is_behind q o.name) (map offered_said (take (i + 1) offered))
index-turn q offered i d old new h was is =
    is ∙ ap (λ o. option_or o (cond (is_behind q (get_or offered i d).name.now) (Some i) None)) was
    ∙ sym (place_from-more (λ o. is_behind q o.name) offered_said offered i d h)

-- a place for a name without an underscore
pub placed_alone : (q name : List ℕ) (v : ℕ) (old new : Option ℕ) → behind name ≡ None →
    new ≡ option_or old (cond (agrees by.AsciiFolded q name) (Some v) None) →
    new ≡ option_or old (cond (is_behind q name) (Some v) None)
placed_alone q name v old new e added =
    added ∙ one_hit v old (agrees by.AsciiFolded q name)
    ∙ ap (λ b. option_or old (cond (agrees by.AsciiFolded q name || b) (Some v) None)) (sym (behind-none q name e))

-- a place for a name with one, and for what stands behind it
pub placed_both : (q name rest : List ℕ) (v : ℕ) (old mid new : Option ℕ) → behind name ≡ Some rest →
    mid ≡ option_or old (cond (agrees by.AsciiFolded q name) (Some v) None) →
    new ≡ option_or mid (cond (agrees by.AsciiFolded q rest) (Some v) None) →
    new ≡ option_or old (cond (is_behind q name) (Some v) None)
placed_both q name rest v old mid new e first second =
    let one = agrees by.AsciiFolded q name in
    let other = agrees by.AsciiFolded q rest in
    let same : other ≡ agrees by.AsciiFolded (95 ∷ q) name =
    ap (agrees by.AsciiFolded (95 ∷ q)) (sym (behind-is name rest e)) in
    second ∙ ap (λ o. option_or o (cond other (Some v) None)) first
    ∙ two_hits v old one other
    ∙ ap (λ b. option_or old (cond (one || b) (Some v) None)) same
