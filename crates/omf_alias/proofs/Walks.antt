-- Aliases one behind the other, as steps that stay where no alias is.
use Rattle.std.proofs.Common.{◌≡◌, ℕ, zero, suc, ◌+◌, ◌-◌, ◌<◌, ◌≤◌, Bool, true, false, not, cond, List, [], ◌∷◌, length}
use Rattle.std.proofs.Common.{filter, find, Option, None, Some, refl, sym, ap, ◌∙◌, arith}
use Rattle.std.specs.Cmp.{IsEquivalence}
use Rattle.std.specs.Cmp.Lexicographic.{on_texts_equal}
use Rattle.std.specs.Option.{option_map, option_map_or}
use Rattle.omf_place.specs.Names.{agrees, spelled}
use Rattle.omf_place.specs.declared.names.Names.{Names}
use Rattle.omf_alias.specs.Reading.{Alias}
use Rattle.omf_alias.specs.Meaning.{Renaming, replacement, end_within, meaning}
use Rattle.omf_alias.specs.inside.Steps.{stepped, step, steps, ended_by, ended}

pub names_agree : (names : Names) → IsEquivalence (agrees names)
names_agree names = on_texts_equal (spelled names)

-- ---- steps

pub stays : (n : ℕ) (r : Renaming) (name : List ℕ) → replacement r name ≡ None → steps n r name ≡ name
stays zero r name e = refl
stays (suc n) r name e = ap (λ o. steps n r (stepped name o)) e ∙ stays n r name e

pub steps-last : (n : ℕ) (r : Renaming) (name : List ℕ) → steps (suc n) r name ≡ step r (steps n r name)
steps-last zero r name = refl
steps-last (suc n) r name = steps-last n r (step r name)

pub steps-add : (m n : ℕ) (r : Renaming) (name : List ℕ) → steps (m + n) r name ≡ steps n r (steps m r name)
steps-add zero n r name = let e : 0 + n ≡ n = omega arith in ap (λ k. steps k r name) e
steps-add (suc m) n r name =
    let e : suc m + n ≡ suc (m + n) = omega arith in
    ap (λ k. steps k r name) e ∙ steps-add m n r (step r name)

-- at an end one stays
pub steps-on : (m n : ℕ) (r : Renaming) (name : List ℕ) → replacement r (steps m r name) ≡ None → m ≤ n
    → steps n r name ≡ steps m r name
steps-on m n r name e h =
    let all : n ≡ m + (n - m) = omega arith in
    ap (λ k. steps k r name) all ∙ steps-add m (n - m) r name ∙ stays (n - m) r (steps m r name) e

ends-later : (m n : ℕ) (r : Renaming) (name : List ℕ) → replacement r (steps m r name) ≡ None → m ≤ n
    → replacement r (steps n r name) ≡ None
ends-later m n r name e h = ap (replacement r) (steps-on m n r name e h) ∙ e

-- ---- what is meant, by steps

none-within : (name : List ℕ) (r : Renaming) (next : Option (List ℕ))
    → option_map_or (end_within zero r) next (Some name) ≡ ended_by name next
none-within name r None = refl
none-within name r (Some next) = refl

within-at : (n : ℕ) (r : Renaming) (name : List ℕ) (next : Option (List ℕ)) → replacement r name ≡ next
    → ((m : List ℕ) → end_within (suc n) r m ≡ ended r (steps n r m))
    → option_map_or (end_within (suc n) r) next (Some name) ≡ ended r (steps n r (stepped name next))
within-at n r name None e rest = sym (ap (ended r) (stays n r name e) ∙ ap (ended_by name) e)
within-at n r name (Some next) e rest = rest next

pub within : (n : ℕ) (r : Renaming) (name : List ℕ) → end_within (suc n) r name ≡ ended r (steps n r name)
within zero r name = none-within name r (replacement r name)
within (suc n) r name = within-at n r name (replacement r name) refl (λ m. within n r m)

-- ---- a circle never ends

abbrev times : (count each : ℕ) → ℕ
times zero each = 0
times (suc count) each = each + times count each

times-least : (count each : ℕ) → 1 ≤ each → count ≤ times count each
times-least zero each h = omega arith
times-least (suc count) each h = omega (arith, times-least count each h)

round : (count each : ℕ) (r : Renaming) (name : List ℕ) → steps each r name ≡ name
    → steps (times count each) r name ≡ name
round zero each r name e = refl
round (suc count) each r name e =
    steps-add each (times count each) r name ∙ ap (steps (times count each) r) e ∙ round count each r name e

ends-itself : (s each : ℕ) (r : Renaming) (name : List ℕ) → 1 ≤ each → steps each r name ≡ name
    → replacement r (steps s r name) ≡ None → replacement r name ≡ None
ends-itself s each r name one e ends =
    ap (replacement r) (sym (round s each r name e))
    ∙ ends-later s (times s each) r name ends (times-least s each one)

-- names that agree stand for the same
pub same-replacement : (r : Renaming) (one other : List ℕ) → agrees r.names one other ≡ true
    → replacement r one ≡ replacement r other
same-replacement r one other h =
    let laws = names_agree r.names in
    let tests : (a : Alias) → agrees r.names a.name one ≡ agrees r.names a.name other =
    λ a. laws.symm a.name one ∙ laws.congr one other a.name h ∙ laws.symm other a.name in
    let same : (λ (a : Alias). agrees r.names a.name one) ≡ (λ (a : Alias). agrees r.names a.name other) =
    λ j. λ a. tests a j in
    ap (λ t. option_map (λ (a : Alias). a.meaning) (find t r.aliases)) same

-- a name that is left isn't met again on a way that ends
unmet : (s k : ℕ) (r : Renaming) (name next : List ℕ) → replacement r name ≡ Some next
    → replacement r (steps s r next) ≡ None → agrees r.names (steps k r next) name ≡ true → ⊥
unmet s k r name next e ends again =
    let here = steps k r next in
    let leads : replacement r here ≡ Some next = same-replacement r here name again ∙ e in
    let back : steps (suc k) r next ≡ next = steps-last k r next ∙ ap (stepped here) leads in
    let end : replacement r next ≡ None = ends-itself s (suc k) r next (omega arith) back ends in
    let there : here ≡ next = stays k r next end in
    let both : Some next ≡ None = sym leads ∙ ap (replacement r) there ∙ end in
    cc

-- ---- as many steps as there are aliases are enough

-- a renaming without the aliases of a name
abbrev without : (name : List ℕ) → Renaming → Renaming
without name r = record {
  names = r.names;
  aliases = filter (λ a. not (agrees r.names a.name name)) r.aliases;
}

find-left : (names : Names) (z name : List ℕ) (a : Alias) (rest left : Option Alias) (b : Bool)
    → agrees names a.name name ≡ b → agrees names z name ≡ false → left ≡ rest
    → (more : List Alias) → find (λ a. agrees names a.name z) more ≡ left
    → find (λ a. agrees names a.name z) (cond (not b) (a ∷ more) more)
    ≡ cond (agrees names a.name z) (Some a) rest
find-left names z name a rest left true is apart same more found =
    let laws = names_agree names in
    let off : agrees names a.name z ≡ false = laws.congr a.name name z is ∙ laws.symm name z ∙ apart in
    found ∙ same ∙ sym (ap (λ t. cond t (Some a) rest) off)
find-left names z name a rest left false is apart same more found =
    ap (cond (agrees names a.name z) (Some a)) (found ∙ same)

find-without : (names : Names) (z name : List ℕ) → agrees names z name ≡ false → (more : List Alias)
    → find (λ a. agrees names a.name z) (filter (λ a. not (agrees names a.name name)) more)
    ≡ find (λ a. agrees names a.name z) more
find-without names z name apart [] = refl
find-without names z name apart (a ∷ more) =
    find-left names z name a (find (λ a. agrees names a.name z) more) (find (λ a. agrees names a.name z) more)
    (agrees names a.name name) refl apart refl
    (filter (λ a. not (agrees names a.name name)) more) (find-without names z name apart more)

kept-without : (r : Renaming) (z name : List ℕ) → agrees r.names z name ≡ false
    → replacement (without name r) z ≡ replacement r z
kept-without r z name apart = ap (option_map (λ a. a.meaning)) (find-without r.names z name apart r.aliases)

no-longer : (p : Alias → Bool) (more : List Alias) → length (filter p more) ≤ length more
no-longer p [] = omega arith
no-longer p (a ∷ more) = at (p a) (no-longer p more)
  where
    at : (b : Bool) → length (filter p more) ≤ length more
        → length (cond b (a ∷ filter p more) (filter p more)) ≤ length (a ∷ more)
    at true h = omega (arith, h)
    at false h = omega (arith, h)

shorter : (p : Alias → Bool) (more : List Alias) (found : Alias) → find p more ≡ Some found
    → length (filter (λ a. not (p a)) more) < length more
shorter p [] found e = let z : ⊥ = cc in absurd z
shorter p (a ∷ more) found e = at (p a) refl (λ h. shorter p more found h)
  where
    at : (b : Bool) → p a ≡ b → (find p more ≡ Some found → length (filter (λ a. not (p a)) more) < length more)
        → length (cond (not b) (a ∷ filter (λ a. not (p a)) more) (filter (λ a. not (p a)) more)) < length (a ∷ more)
    at true is rest = omega (arith, no-longer (λ a. not (p a)) more)
    at false is rest =
        let later : find p more ≡ Some found = ap (λ t. cond t (Some a) (find p more)) (sym is) ∙ e in
        omega (arith, rest later)

fewer-at : (r : Renaming) (name next : List ℕ) (o : Option Alias)
    → find (λ a. agrees r.names a.name name) r.aliases ≡ o → option_map (λ (a : Alias). a.meaning) o ≡ Some next
    → length (without name r).aliases < length r.aliases
fewer-at r name next None e is = let z : ⊥ = cc in absurd z
fewer-at r name next (Some a) e is = shorter (λ a. agrees r.names a.name name) r.aliases a e

fewer : (r : Renaming) (name next : List ℕ) → replacement r name ≡ Some next
    → length (without name r).aliases < length r.aliases
fewer r name next e = fewer-at r name next (find (λ a. agrees r.names a.name name) r.aliases) refl e

decided : (b : Bool) → (b ≡ true → ⊥) → b ≡ false
decided true never = absurd (never refl)
decided false never = refl

-- where the way from the name that another one stands for ends, it is the same without the aliases of that other
apart : (s k : ℕ) (r : Renaming) (name next : List ℕ) → replacement r name ≡ Some next
    → replacement r (steps s r next) ≡ None
    → replacement (without name r) (steps k r next) ≡ replacement r (steps k r next)
apart s k r name next e ends =
    kept-without r (steps k r next) name
    (decided (agrees r.names (steps k r next) name) (unmet s k r name next e ends))

same-way : (s k : ℕ) (r : Renaming) (name next : List ℕ) → replacement r name ≡ Some next
    → replacement r (steps s r next) ≡ None → steps k (without name r) next ≡ steps k r next
same-way s zero r name next e ends = refl
same-way s (suc k) r name next e ends =
    steps-last k (without name r) next
    ∙ ap (step (without name r)) (same-way s k r name next e ends)
    ∙ ap (stepped (steps k r next)) (apart s k r name next e ends)
    ∙ sym (steps-last k r next)

soon-none : (n : ℕ) (r : Renaming) (name : List ℕ) → replacement r name ≡ None → replacement r (steps n r name) ≡ None
soon-none n r name e = ap (replacement r) (stays n r name e) ∙ e

soon-zero : (r : Renaming) (name : List ℕ) (next : Option (List ℕ)) → replacement r name ≡ next
    → length r.aliases ≤ 0 → replacement r name ≡ None
soon-zero r name None e h = e
soon-zero r name (Some next) e h = let z : ⊥ = omega (arith, fewer r name next e) in absurd z

soon-next : (n s : ℕ) (r : Renaming) (name : List ℕ) (next : Option (List ℕ)) → replacement r name ≡ next
    → length r.aliases ≤ suc n → replacement r (steps s r name) ≡ None
    → ((q : Renaming) (m : List ℕ) → length q.aliases ≤ n → replacement q (steps s q m) ≡ None
    → replacement q (steps n q m) ≡ None)
    → replacement r (steps (suc n) r name) ≡ None
soon-next n s r name None e h ends rest = soon-none (suc n) r name e
soon-next n s r name (Some next) e h ends rest =
    let first : step r name ≡ next = ap (stepped name) e in
    let on : replacement r (steps s r next) ≡ None =
    ap (λ m. replacement r (steps s r m)) (sym first) ∙ ends-later s (suc s) r name ends (omega arith) in
    let q = without name r in
    let less : length q.aliases ≤ n = omega (arith, fewer r name next e) in
    let end : replacement q (steps s q next) ≡ None =
    ap (replacement q) (same-way s s r name next e on) ∙ apart s s r name next e on ∙ on in
    ap (λ m. replacement r (steps n r m)) first ∙ sym (apart s n r name next e on)
    ∙ ap (replacement q) (sym (same-way s n r name next e on)) ∙ rest q next less end

soon : (n s : ℕ) (r : Renaming) (name : List ℕ) → length r.aliases ≤ n → replacement r (steps s r name) ≡ None
    → replacement r (steps n r name) ≡ None
soon zero s r name h ends = soon-zero r name (replacement r name) refl h
soon (suc n) s r name h ends = soon-next n s r name (replacement r name) refl h ends (λ q m. soon n s q m)

-- ---- so any number of steps that is at least that of the aliases tells what is meant

ended-at : (n s : ℕ) (r : Renaming) (name : List ℕ) (near far : Option (List ℕ)) → length r.aliases ≤ n → n ≤ s
    → replacement r (steps n r name) ≡ near → replacement r (steps s r name) ≡ far
    → ended r (steps n r name) ≡ ended r (steps s r name)
ended-at n s r name None far h le e f = ap (ended r) (sym (steps-on n s r name e le))
ended-at n s r name (Some near) (Some far) h le e f =
    ap (ended_by (steps n r name)) e ∙ sym (ap (ended_by (steps s r name)) f)
ended-at n s r name (Some near) None h le e f =
    let z : ⊥ = let both : Some near ≡ None = sym e ∙ soon n s r name h f in cc in absurd z

pub meaning-steps : (s : ℕ) (r : Renaming) (name : List ℕ) → length r.aliases ≤ s
    → meaning r name ≡ ended r (steps s r name)
unfolding meaning
meaning-steps s r name h =
    let n = length r.aliases in
    within n r name
    ∙ ended-at n s r name (replacement r (steps n r name)) (replacement r (steps s r name)) (omega arith) h refl refl

-- a name means what it stands for means
pub meaning-next : (r : Renaming) (name : List ℕ) → meaning r name ≡ meaning r (step r name)
meaning-next r name =
    let n = length r.aliases in
    meaning-steps (suc n) r name (omega arith) ∙ sym (meaning-steps n r (step r name) (omega arith))

-- one that stands for no other means itself
pub meaning-end : (r : Renaming) (name : List ℕ) → replacement r name ≡ None → meaning r name ≡ Some name
meaning-end r name e =
    let n = length r.aliases in
    meaning-steps n r name (omega arith) ∙ ap (ended r) (stays n r name e) ∙ ap (ended_by name) e
