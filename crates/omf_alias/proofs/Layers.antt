-- What names mean by aliases of all modules, and those of one behind them, is what they mean by the former, and then by
-- the latter.
use Rattle.std.proofs.Common.{◌≡◌, ℕ, zero, suc, Bool, true, false, cond, List, [], ◌∷◌, length, map}
use Rattle.std.proofs.Common.{find, Option, None, Some, refl, sym, ap, ◌∙◌}
use Rattle.std.proofs.lemmas.List.Folds.{find-append}
use Rattle.std.specs.Option.{option_map, option_map_or, option_and_then, option_or, unwrap_or}
use Rattle.omf_place.specs.Names.{agrees}
use Rattle.omf_alias.specs.Reading.{Alias}
use Rattle.omf_alias.specs.Meaning.{Renaming, replacement, end_within, meaning}
use Rattle.omf_alias.specs.Layers.{with_own, through, own_through}
use Rattle.omf_alias.specs.inside.Steps.{stepped}
use Rattle.omf_alias.proofs.Chains.{is_end}
use Rattle.omf_alias.proofs.Walks.{meaning-end, meaning-next, same-replacement}

-- the alias that a name agrees with
abbrev found : Renaming → (own : List Alias) → (name : List ℕ) → Option Alias
found r own name = find (λ a. agrees r.names a.name name) own

abbrev meant : Alias → List ℕ
meant a = a.meaning

-- ---- what names stand for

map-or : (one other : Option Alias)
    → option_map meant (option_or one other) ≡ option_or (option_map meant one) (option_map meant other)
map-or None other = refl
map-or (Some a) other = refl

stands-both : (r : Renaming) (own : List Alias) (name : List ℕ)
    → replacement (with_own r own) name ≡ option_or (replacement r name) (option_map meant (found r own name))
stands-both r own name =
    ap (option_map meant) (find-append (λ a. agrees r.names a.name name) r.aliases own)
    ∙ map-or (find (λ a. agrees r.names a.name name) r.aliases) (found r own name)

map-turn : (r : Renaming) (b : Bool) (a : Alias) (left : Option Alias)
    → cond b (Some (through r a)) (option_map (through r) left) ≡ option_map (through r) (cond b (Some a) left)
map-turn r true a left = refl
map-turn r false a left = refl

found-through : (r : Renaming) (own : List Alias) (name : List ℕ)
    → found r (map (through r) own) name ≡ option_map (through r) (found r own name)
found-through r [] name = refl
found-through r (a ∷ own) name =
    ap (cond (agrees r.names a.name name) (Some (through r a))) (found-through r own name)
    ∙ map-turn r (agrees r.names a.name name) a (found r own name)

stands-shared : (r : Renaming) (own : List Alias) (name next : List ℕ) → replacement r name ≡ Some next
    → replacement (with_own r own) name ≡ Some next
stands-shared r own name next e =
    stands-both r own name ∙ ap (λ o. option_or o (option_map meant (found r own name))) e

stands-own : (r : Renaming) (own : List Alias) (name : List ℕ) (o : Option Alias) → replacement r name ≡ None
    → found r own name ≡ o → replacement (with_own r own) name ≡ option_map meant o
stands-own r own name o e is =
    stands-both r own name ∙ ap (λ t. option_or t (option_map meant (found r own name))) e ∙ ap (option_map meant) is

stands-through : (r : Renaming) (own : List Alias) (name : List ℕ) (o : Option Alias) → found r own name ≡ o
    → replacement (own_through r own) name ≡ option_map meant (option_map (through r) o)
stands-through r own name o is =
    ap (option_map meant) (found-through r own name) ∙ ap (λ t. option_map meant (option_map (through r) t)) is

-- ---- one step

next-means : (r : Renaming) (name next : List ℕ) → replacement r name ≡ Some next → meaning r name ≡ meaning r next
next-means r name next e = meaning-next r name ∙ ap (λ o. meaning r (stepped name o)) e

-- what a name means by the aliases of all, it means with those of one behind them
shared-at : (most : ℕ) (r : Renaming) (own : List Alias) (name end : List ℕ) (next : Option (List ℕ))
    → replacement r name ≡ next → option_map_or (end_within most r) next (Some name) ≡ Some end
    → ((m : List ℕ) → end_within most r m ≡ Some end → meaning (with_own r own) m ≡ meaning (with_own r own) end)
    → meaning (with_own r own) name ≡ meaning (with_own r own) end
shared-at most r own name end None e is rest = let same : name ≡ end = cc in ap (meaning (with_own r own)) same
shared-at most r own name end (Some next) e is rest =
    next-means (with_own r own) name next (stands-shared r own name next e) ∙ rest next is

shared-within : (most : ℕ) (r : Renaming) (own : List Alias) (name end : List ℕ) → end_within most r name ≡ Some end
    → meaning (with_own r own) name ≡ meaning (with_own r own) end
shared-within zero r own name end is = let z : ⊥ = cc in absurd z
shared-within (suc most) r own name end is =
    shared-at most r own name end (replacement r name) refl is (λ m h. shared-within most r own m end h)

shared : (r : Renaming) (own : List Alias) (name end : List ℕ) → meaning r name ≡ Some end
    → meaning (with_own r own) name ≡ meaning (with_own r own) end
unfolding meaning
shared r own name end is = shared-within (suc (length r.aliases)) r own name end is

-- ---- what goes round for ever

closed : (r : Renaming) (P : List ℕ → Type 0)
    → ((name : List ℕ) → P name → (next : List ℕ) × (replacement r name ≡ Some next) × P next)
    → (most : ℕ) (name : List ℕ) → P name → end_within most r name ≡ None
closed r P on zero name h = refl
closed r P on (suc most) name h =
    let next = on name h in
    ap (λ o. option_map_or (end_within most r) o (Some name)) next.1 ∙ closed r P on most next.0 next.2

never : (r : Renaming) (P : List ℕ → Type 0)
    → ((name : List ℕ) → P name → (next : List ℕ) × (replacement r name ≡ Some next) × P next)
    → (name : List ℕ) → P name → meaning r name ≡ None
unfolding meaning
never r P on name h = closed r P on (suc (length r.aliases)) name h

-- what a name means by those of all, and then by those of one
abbrev in-turn : Renaming → (own : List Alias) → (name : List ℕ) → Option (List ℕ)
in-turn r own name = option_and_then (meaning (own_through r own)) (meaning r name)

abbrev MeansNothing : Renaming → (own : List Alias) → (name : List ℕ) → Type 0
MeansNothing r own name = in-turn r own name ≡ None

abbrev Goes : Renaming → (own : List Alias) → (name : List ℕ) → Type 0
Goes r own name = (next : List ℕ) × (replacement (with_own r own) name ≡ Some next) × MeansNothing r own next

goes-own : (r : Renaming) (own : List Alias) (name : List ℕ) (a : Alias) (means : Option (List ℕ))
    → found r own name ≡ Some a → meaning r a.meaning ≡ means → meaning (own_through r own) name ≡ None
    → MeansNothing r own a.meaning
goes-own r own name a None is m nothing = ap (option_and_then (meaning (own_through r own))) m
goes-own r own name a (Some end) is m nothing =
    let s = own_through r own in
    let stands : replacement s name ≡ Some end =
    stands-through r own name (Some a) is ∙ ap (λ o. Some (unwrap_or o a.name)) m in
    ap (option_and_then (meaning s)) m ∙ sym (next-means s name end stands) ∙ nothing

goes-found : (r : Renaming) (own : List Alias) (name : List ℕ) (o : Option Alias) → replacement r name ≡ None
    → found r own name ≡ o → meaning (own_through r own) name ≡ None → Goes r own name
goes-found r own name None e is nothing =
    let some = meaning-end (own_through r own) name (stands-through r own name None is) in
    let z : ⊥ = let both : Some name ≡ None = sym some ∙ nothing in cc in absurd z
goes-found r own name (Some a) e is nothing =
    (a.meaning, stands-own r own name (Some a) e is, goes-own r own name a (meaning r a.meaning) is refl nothing)

goes-at : (r : Renaming) (own : List Alias) (name : List ℕ) (next : Option (List ℕ)) → replacement r name ≡ next
    → MeansNothing r own name → Goes r own name
goes-at r own name None e h =
    let here : meaning (own_through r own) name ≡ None =
    ap (option_and_then (meaning (own_through r own))) (sym (meaning-end r name e)) ∙ h in
    goes-found r own name (found r own name) e refl here
goes-at r own name (Some next) e h = (
  next,
  stands-shared r own name next e,
  ap (option_and_then (meaning (own_through r own))) (sym (next-means r name next e)) ∙ h,
)

nothing : (r : Renaming) (own : List Alias) (name : List ℕ) → MeansNothing r own name
    → meaning (with_own r own) name ≡ None
nothing r own name h =
    never (with_own r own) (MeansNothing r own) (λ m k. goes-at r own m (replacement r m) refl k) name h

-- ---- what ends

own-on : (r : Renaming) (own : List Alias) (name end : List ℕ) (a : Alias) (means : Option (List ℕ))
    → replacement r name ≡ None → found r own name ≡ Some a → meaning r a.meaning ≡ means
    → agrees r.names a.name name ≡ true
    → meaning (with_own r own) (unwrap_or means a.name) ≡ Some end → meaning (with_own r own) name ≡ Some end
own-on r own name end a (Some m) e is means agree h =
    next-means (with_own r own) name a.meaning (stands-own r own name (Some a) e is)
    ∙ shared r own a.meaning m means ∙ h
own-on r own name end a None e is means agree h =
    let both = with_own r own in
    let stands : replacement both a.name ≡ Some a.meaning =
    same-replacement both a.name name agree ∙ stands-own r own name (Some a) e is in
    let none : meaning both a.meaning ≡ None =
    nothing r own a.meaning (ap (option_and_then (meaning (own_through r own))) means) in
    let z : ⊥ = let both' : Some end ≡ None = sym h ∙ next-means both a.name a.meaning stands ∙ none in cc in absurd z

agrees-at : (r : Renaming) (own : List Alias) (name : List ℕ) (a : Alias) → found r own name ≡ Some a
    → agrees r.names a.name name ≡ true
agrees-at r [] name a is = let z : ⊥ = cc in absurd z
agrees-at r (o ∷ own) name a is =
    at (agrees r.names o.name name) refl (λ h. agrees-at r own name a h)
  where
    at : (b : Bool) → agrees r.names o.name name ≡ b
        → (found r own name ≡ Some a → agrees r.names a.name name ≡ true) → agrees r.names a.name name ≡ true
    at true t rest =
        let same : Some o ≡ Some a = ap (λ c. cond c (Some o) (found r own name)) (sym t) ∙ is in
        let same' : o ≡ a = cc in
        ap (λ x. agrees r.names x.name name) (sym same') ∙ t
    at false t rest = rest (ap (λ c. cond c (Some o) (found r own name)) (sym t) ∙ is)

-- where it means none by those of all
ended-own : (r : Renaming) (own : List Alias) (a : Alias) (name : List ℕ) (means : Option (List ℕ))
    → replacement r name ≡ None → agrees r.names a.name name ≡ true → meaning r a.meaning ≡ means
    → replacement r (unwrap_or means a.name) ≡ None
ended-own r own a name None e agree means = same-replacement r a.name name agree ∙ e
ended-own r own a name (Some m) e agree means = is_end r a.meaning m means

some-found : (most : ℕ) (r : Renaming) (own : List Alias) (name end : List ℕ) (o : Option Alias)
    → replacement r name ≡ None → found r own name ≡ o
    → option_map_or (end_within most (own_through r own)) (option_map meant (option_map (through r) o)) (Some name)
    ≡ Some end
    → ((m : List ℕ) → replacement r m ≡ None → end_within most (own_through r own) m ≡ Some end
    → meaning (with_own r own) m ≡ Some end)
    → meaning (with_own r own) name ≡ Some end
some-found most r own name end None e is h rest =
    meaning-end (with_own r own) name (stands-own r own name None e is) ∙ h
some-found most r own name end (Some a) e is h rest =
    let agree = agrees-at r own name a is in
    own-on r own name end a (meaning r a.meaning) e is refl agree
    (rest (unwrap_or (meaning r a.meaning) a.name)
    (ended-own r own a name (meaning r a.meaning) e agree refl) h)

some-within : (most : ℕ) (r : Renaming) (own : List Alias) (name end : List ℕ) → replacement r name ≡ None
    → end_within most (own_through r own) name ≡ Some end → meaning (with_own r own) name ≡ Some end
some-within zero r own name end e h = let z : ⊥ = cc in absurd z
some-within (suc most) r own name end e h =
    let s = own_through r own in
    some-found most r own name end (found r own name) e refl
    (ap (λ o. option_map_or (end_within most s) o (Some name)) (sym (stands-through r own name (found r own name) refl))
    ∙ h)
    (λ m k t. some-within most r own m end k t)

some : (r : Renaming) (own : List Alias) (name end : List ℕ) → replacement r name ≡ None
    → meaning (own_through r own) name ≡ Some end → meaning (with_own r own) name ≡ Some end
unfolding meaning
some r own name end e h = some-within (suc (length (own_through r own).aliases)) r own name end e h

-- ---- all together

in-turn-own : (r : Renaming) (own : List Alias) (name mid : List ℕ) (last : Option (List ℕ)) → meaning r name ≡ Some mid
    → meaning (own_through r own) mid ≡ last → meaning (with_own r own) name ≡ last
in-turn-own r own name mid (Some end) e f = shared r own name mid e ∙ some r own mid end (is_end r name mid e) f
in-turn-own r own name mid None e f =
    nothing r own name (ap (option_and_then (meaning (own_through r own))) e ∙ f)

in-turn-shared : (r : Renaming) (own : List Alias) (name : List ℕ) (mid : Option (List ℕ)) → meaning r name ≡ mid
    → meaning (with_own r own) name ≡ option_and_then (meaning (own_through r own)) mid
in-turn-shared r own name None e = nothing r own name (ap (option_and_then (meaning (own_through r own))) e)
in-turn-shared r own name (Some mid) e = in-turn-own r own name mid (meaning (own_through r own) mid) e refl

pub layers : (r : Renaming) (own : List Alias) (name : List ℕ)
    → meaning (with_own r own) name ≡ option_and_then (meaning (own_through r own)) (meaning r name)
layers r own name = in-turn-shared r own name (meaning r name) refl
