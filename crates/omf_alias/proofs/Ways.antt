-- Ways that are longer each time, and what names mean by them.
use Rattle.std.proofs.Common.{◌≡◌, ℕ, ◌+◌, ◌<◌, ◌≤◌, Bool, true, false, cond, List, [], ◌∷◌, length, map}
use Rattle.std.proofs.Common.{find, get_or, is_some, Option, None, Some, refl, sym, ap, ◌∙◌, arith}
use Rattle.std.proofs.lemmas.List.{get_or-map, length-map}
use Rattle.std.proofs.lemmas.Simd.{map-map}
use Rattle.std.specs.Borrow.{Bor}
use Rattle.std.specs.Option.{option_map, option_map_or}
use Rattle.omf_library.specs.Said.{bytes_said}
use Rattle.omf_place.specs.Names.{agrees}
use Rattle.omf_place.specs.declared.names.Names.{Names}
use Rattle.omf_alias.specs.Meaning.{Renaming, replacement}
use Rattle.omf_alias.specs.Ordered.{IsByName, value_of}
use Rattle.omf_alias.specs.Lent.{alias_said, aliases_said}
use Rattle.omf_alias.specs.declared.named.NamedValue.{NamedValue}
use Rattle.omf_alias.specs.declared.reading.Alias.{Alias}
use Rattle.omf_alias.specs.Told.{end_said, pair_at, told, told_by}
use Rattle.omf_alias.specs.inside.Ends.{AreEnds, AreWays, end_by, leads, leads_by, twice}
use Rattle.omf_alias.specs.inside.Ends.{way_said}
use Rattle.omf_alias.specs.inside.Steps.{ended, ended_by, step, stepped, steps}
use Rattle.omf_alias.proofs.InOrder.{before}
use Rattle.omf_alias.proofs.Walks.{meaning-steps, steps-add}

-- ---- looked up in a list that is made of another

map-turn : {X Y : Type 0} (f : X → Y) (b : Bool) (x : X) (rest : Option X) (rest' : Option Y) → rest' ≡ option_map f rest
    → cond b (Some (f x)) rest' ≡ option_map f (cond b (Some x) rest)
map-turn f true x rest rest' e = refl
map-turn f false x rest rest' e = e

find-map : {X Y : Type 0} (f : X → Y) (p : Y → Bool) (xs : List X)
    → find p (map f xs) ≡ option_map f (find (λ x. p (f x)) xs)
find-map f p [] = refl
find-map f p (x ∷ xs) = map-turn f (p (f x)) x (find (λ x. p (f x)) xs) (find p (map f xs)) (find-map f p xs)

abbrev named : {V : Type 0} → Names → (name : List ℕ) → NamedValue V → Bool
named names name v = agrees names v.name.now name

-- ---- by values

value-lead : (o : Option (NamedValue (Bor (List ℕ)))) (name : List ℕ)
    → option_map_or (λ p. p.1) (option_map way_said o) name ≡ option_map_or (λ b. b.now) (option_map (λ v. v.value) o) name
value-lead None name = refl
value-lead (Some v) name = refl

pub leads-value : (names : Names) (ways : List (NamedValue (Bor (List ℕ)))) (name : List ℕ)
    → leads names ways name ≡ option_map_or (λ b. b.now) (value_of names ways name) name
leads-value names ways name =
    ap (λ o. option_map_or (λ p. p.1) o name) (find-map way_said (λ p. agrees names p.0 name) ways)
    ∙ value-lead (find (named names name) ways) name

value-end : (o : Option (NamedValue (Bor (List ℕ)))) (name : List ℕ)
    → option_map_or (λ p. None) (option_map way_said o) (Some name)
    ≡ option_map_or (λ b. None) (option_map (λ v. v.value) o) (Some name)
value-end None name = refl
value-end (Some v) name = refl

pub end-value : (names : Names) (ways : List (NamedValue (Bor (List ℕ)))) (name : List ℕ)
    → end_by names (map way_said ways) name ≡ option_map_or (λ b. None) (value_of names ways name) (Some name)
end-value names ways name =
    ap (λ o. option_map_or (λ p. None) o (Some name)) (find-map way_said (λ p. agrees names p.0 name) ways)
    ∙ value-end (find (named names name) ways) name

value-told : (o : Option (NamedValue (Option (Bor (List ℕ))))) (name : List ℕ)
    → option_map_or (λ p. p.1) (option_map end_said o) (Some name)
    ≡ option_map_or bytes_said (option_map (λ v. v.value) o) (Some name)
value-told None name = refl
value-told (Some v) name = refl

pub told-value : (names : Names) (ends : List (NamedValue (Option (Bor (List ℕ))))) (name : List ℕ)
    → told names ends name ≡ option_map_or bytes_said (value_of names ends name) (Some name)
told-value names ends name =
    ap (λ o. option_map_or (λ p. p.1) o (Some name)) (find-map end_said (λ p. agrees names p.0 name) ends)
    ∙ value-told (find (named names name) ends) name

is-some-map : {X Y : Type 0} (f : X → Y) (o : Option X) → is_some (option_map f o) ≡ is_some o
is-some-map f None = refl
is-some-map f (Some x) = refl

there-value : (names : Names) (ways : List (NamedValue (Bor (List ℕ)))) (name : List ℕ)
    → is_some (pair_at names (map way_said ways) name) ≡ is_some (value_of names ways name)
there-value names ways name =
    ap is_some (find-map way_said (λ p. agrees names p.0 name) ways)
    ∙ is-some-map way_said (find (named names name) ways)
    ∙ sym (is-some-map (λ v. v.value) (find (named names name) ways))

-- ---- the same names

sorted-at : {V W : Type 0} (names : Names) (xs : List (NamedValue V)) (ys : List (NamedValue W)) (e : NamedValue V)
    → map (λ v. v.name.now) xs ≡ map (λ w. w.name.now) ys → IsByName names xs → length xs ≡ length ys
    → IsByName names ys
sorted-at {V} {W} names xs ys e same up long = λ k d low high.
    let here : (i : ℕ) → i < length ys → (get_or ys i d).name.now ≡ (get_or xs i e).name.now =
    λ i h. let within : i < length xs = omega (arith, long, h) in
    sym (get_or-map (λ (w : NamedValue W). w.name.now) ys i d [] h)
    ∙ ap (λ l. get_or l i []) (sym same) ∙ get_or-map (λ (v : NamedValue V). v.name.now) xs i e [] within in
    let next = here (k + 1) high in
    let this = here k (omega (arith, high)) in
    let was = up k e low (omega (arith, long, high)) in
    (λ j. before names (next j) (this j)) ∙ was

pub same-names : {V W : Type 0} (names : Names) (xs : List (NamedValue V)) (ys : List (NamedValue W))
    → map (λ v. v.name.now) xs ≡ map (λ w. w.name.now) ys → IsByName names xs → IsByName names ys
same-names {V} {W} names [] ys same up = λ k d low high.
    let none : 0 ≡ length ys = ap length same ∙ length-map ys (λ (w : NamedValue W). w.name.now) in
    let z : ⊥ = omega (arith, none, high) in absurd z
same-names {V} {W} names (x ∷ xs) ys same up =
    sorted-at names (x ∷ xs) ys x same up
    (sym (length-map (x ∷ xs) (λ (v : NamedValue V). v.name.now)) ∙ ap length same
    ∙ length-map ys (λ (w : NamedValue W). w.name.now))

-- ---- the ways of one step

abbrev pub alias_way : Alias → List ℕ × List ℕ
alias_way a = (a.name.now, a.meaning.now)

module _ (names : Names) (aliases : List Alias) (name : List ℕ) where
  abbrev r : Renaming
  r = record { names = names; aliases = aliases_said aliases }

  abbrev met : Option Alias
  met = find (λ (a : Alias). agrees names a.name.now name) aliases

  first-stands : replacement r name ≡ option_map (λ (a : Alias). a.meaning.now) met
  first-stands = ap (option_map (λ a. a.meaning)) (find-map alias_said (λ a. agrees names a.name name) aliases) ∙ at met
    where
      at : (o : Option Alias) → option_map (λ a. a.meaning) (option_map alias_said o)
          ≡ option_map (λ (a : Alias). a.meaning.now) o
      at None = refl
      at (Some a) = refl

  first-pair : pair_at names (map alias_way aliases) name ≡ option_map alias_way met
  first-pair = find-map alias_way (λ p. agrees names p.0 name) aliases

  first-lead : leads_by names (map alias_way aliases) name ≡ step r name
  first-lead = ap (λ o. option_map_or (λ p. p.1) o name) first-pair ∙ at met ∙ sym (ap (λ o. stepped name o) first-stands)
    where
      at : (o : Option Alias) → option_map_or (λ p. p.1) (option_map alias_way o) name
          ≡ stepped name (option_map (λ (a : Alias). a.meaning.now) o)
      at None = refl
      at (Some a) = refl

  first-there : is_some (pair_at names (map alias_way aliases) name) ≡ is_some (replacement r name)
  first-there =
      ap is_some first-pair ∙ is-some-map alias_way met ∙ sym (is-some-map (λ (a : Alias). a.meaning.now) met)
      ∙ sym (ap is_some first-stands)

pub first-ways : (names : Names) (aliases : List Alias) (pushed ways : List (NamedValue (Bor (List ℕ))))
    → map way_said pushed ≡ map alias_way aliases → IsByName names ways
    → ((name : List ℕ) → value_of names ways name ≡ value_of names pushed name)
    → AreWays (record { names = names; aliases = aliases_said aliases }) 1 ways
first-ways names aliases pushed ways are sorted kept = record {
  far = 1;
  long = omega arith;
  lead = λ name.
      leads-value names ways name ∙ ap (λ o. option_map_or (λ b. b.now) o name) (kept name)
      ∙ sym (leads-value names pushed name) ∙ ap (λ l. leads_by names l name) are ∙ first-lead names aliases name;
  there = λ name.
      there-value names ways name ∙ ap is_some (kept name) ∙ sym (there-value names pushed name)
      ∙ ap (λ l. is_some (pair_at names l name)) are ∙ first-there names aliases name;
  sorted = sorted;
}

-- ---- ways that are twice as long

twice-pair : (names : Names) (pairs : List (List ℕ × List ℕ)) (name : List ℕ)
    → pair_at names (map (twice names pairs) pairs) name ≡ option_map (twice names pairs) (pair_at names pairs name)
twice-pair names pairs name = find-map (twice names pairs) (λ p. agrees names p.0 name) pairs

twice-at : (names : Names) (pairs : List (List ℕ × List ℕ)) (name : List ℕ) (o : Option (List ℕ × List ℕ))
    → pair_at names pairs name ≡ o
    → option_map_or (λ p. p.1) (option_map (twice names pairs) o) name
    ≡ leads_by names pairs (option_map_or (λ p. p.1) o name)
twice-at names pairs name None e = sym (ap (λ o. option_map_or (λ p. p.1) o name) e)
twice-at names pairs name (Some p) e = refl

twice-leads : (names : Names) (pairs : List (List ℕ × List ℕ)) (name : List ℕ)
    → leads_by names (map (twice names pairs) pairs) name ≡ leads_by names pairs (leads_by names pairs name)
twice-leads names pairs name =
    ap (λ o. option_map_or (λ p. p.1) o name) (twice-pair names pairs name)
    ∙ twice-at names pairs name (pair_at names pairs name) refl

pub longer-ways : (r : Renaming) (most more : ℕ) (ways further : List (NamedValue (Bor (List ℕ)))) → AreWays r most ways
    → map way_said further ≡ map (twice r.names (map way_said ways)) (map way_said ways) → more ≤ most + most
    → AreWays r more further
longer-ways r most more ways further are is within =
    let names = r.names in
    let pairs = map way_said ways in
    record {
      far = are.far + are.far;
      long = omega (arith, are.long, within);
      lead = λ name.
          ap (λ l. leads_by names l name) is ∙ twice-leads names pairs name ∙ ap (leads_by names pairs) (are.lead name)
          ∙ are.lead (steps are.far r name) ∙ sym (steps-add are.far are.far r name);
      there = λ name.
          ap (λ l. is_some (pair_at names l name)) is ∙ ap is_some (twice-pair names pairs name)
          ∙ is-some-map (twice names pairs) (pair_at names pairs name) ∙ are.there name;
      sorted = same-names names ways further
          (sym (map-map (λ p. p.0) way_said ways)
          ∙ sym (map-map (λ p. p.0) (twice names pairs) pairs)
          ∙ ap (map (λ p. p.0)) (sym is) ∙ map-map (λ p. p.0) way_said further) are.sorted;
    }

-- ---- the ends of long ways

end-same : {X : Type 0} (name : List ℕ) (o : Option X) (next : Option (List ℕ)) → is_some o ≡ is_some next
    → option_map_or (λ (x : X). None) o (Some name) ≡ ended_by name next
end-same name None None e = refl
end-same name (Some x) (Some next) e = refl
end-same name None (Some next) e = let z : ⊥ = cc in absurd z
end-same name (Some x) None e = let z : ⊥ = cc in absurd z

abbrev way_end : Names → List (List ℕ × List ℕ) → List ℕ × List ℕ → List ℕ × Option (List ℕ)
way_end names pairs p = (p.0, end_by names pairs p.1)

told-at : (r : Renaming) (pairs : List (List ℕ × List ℕ)) (name : List ℕ) (o : Option (List ℕ × List ℕ))
    → pair_at r.names pairs name ≡ o
    → ((m : List ℕ) → is_some (pair_at r.names pairs m) ≡ is_some (replacement r m))
    → option_map_or (λ p. p.1) (option_map (way_end r.names pairs) o) (Some name)
    ≡ ended r (option_map_or (λ p. p.1) o name)
told-at r pairs name None e there =
    end-same {X = List ℕ × List ℕ} name None (replacement r name) (ap is_some (sym e) ∙ there name)
told-at r pairs name (Some p) e there = end-same p.1 (pair_at r.names pairs p.1) (replacement r p.1) (there p.1)

-- a way's name with its end
abbrev pub way_told : Names → List (List ℕ × List ℕ) → NamedValue (Bor (List ℕ)) → List ℕ × Option (List ℕ)
way_told names pairs v = (v.name.now, end_by names pairs v.value.now)

pub ways-end : (r : Renaming) (most : ℕ) (ways : List (NamedValue (Bor (List ℕ)))) (ends : List (NamedValue (Option (Bor (List ℕ)))))
    → AreWays r most ways → length r.aliases ≤ most
    → map end_said ends ≡ map (way_told r.names (map way_said ways)) ways → AreEnds r ends
ways-end r most ways ends are enough is =
    let names = r.names in
    let pairs = map way_said ways in
    let of_pairs : map end_said ends ≡ map (way_end names pairs) pairs =
    is ∙ sym (map-map (way_end names pairs) way_said ways) in
    record {
      means = λ name.
          ap (λ l. told_by names l name) of_pairs
          ∙ ap (λ o. option_map_or (λ p. p.1) o (Some name)) (find-map (way_end names pairs) (λ p. agrees names p.0 name) pairs)
          ∙ told-at r pairs name (pair_at names pairs name) refl are.there
          ∙ ap (ended r) (are.lead name) ∙ sym (meaning-steps are.far r name (omega (arith, are.long, enough)));
      sorted = same-names names ways ends
          (sym (map-map (λ p. p.0) way_said ways)
          ∙ sym (map-map (λ p. p.0) (way_end names pairs) pairs)
          ∙ ap (map (λ p. p.0)) (sym of_pairs) ∙ map-map (λ p. p.0) end_said ends) are.sorted;
    }
