-- The tables of symbols, name by name.
use Rattle.std.proofs.Common.{◌≡◌, ℕ, zero, suc, ◌<◌, ◌==◌, Bool, true, false, not, List, [], ◌∷◌, ◌++◌, length, map, Some, sym, ap, ◌∙◌}
use Rattle.std.proofs.Common.{append_assoc, arith}
use Rattle.std.proofs.lemmas.List.{map-append}
use Rattle.std.specs.List.{after_first, before_first}
use Rattle.std.specs.Option.{option_map_or}
use Rattle.doslink_telling.specs.Symbols.{Symbol, ends_name, low_number, name_at, number, numbered, paired}

-- one more symbol was pushed
pushed-one : {X : Type 0} (said : X → Symbol) (old new : List X) (x : X) (s : Symbol) (all rest goal : List Symbol)
    → new ≡ old ++ x ∷ [] → said x ≡ s → all ≡ s ∷ rest → map said old ++ all ≡ goal → map said new ++ rest ≡ goal
pushed-one said old new x s all rest goal pushed is splits before =
    ap (λ l. map said l ++ rest) pushed ∙ ap (λ l. l ++ rest) (map-append said old (x ∷ []))
    ∙ append_assoc (map said old) (said x ∷ []) rest
    ∙ ap (λ y. map said old ++ y ∷ rest) is
    ∙ ap (λ l. map said old ++ l) (sym splits) ∙ before

-- ---- the tables `/` and `/SYM64/`

next-numbered : (less : ℕ) (wide : Bool) (places names : List ℕ) (place : ℕ) (behind : List ℕ) → 0 < length names
    → number wide places ≡ Some (place, behind)
    → numbered (suc less) wide places names
    ≡ record { name = before_first ends_name names; place = place } ∷ numbered less wide behind (after_first ends_name names)
next-numbered less wide places [] place behind k e = absurd (omega arith)
next-numbered less wide places (byte ∷ names) place behind k e =
    ap (λ o. option_map_or (λ p. record { name = before_first ends_name (byte ∷ names); place = p.0 }
    ∷ numbered less wide p.1 (after_first ends_name (byte ∷ names))) o []) e

pub numbered-more : {X : Type 0} (said : X → Symbol) (left less : ℕ) (wide : Bool) (places names : List ℕ) (place : ℕ)
    (behind : List ℕ) (old new : List X) (x : X) (goal : List Symbol)
    → left ≡ suc less → 0 < length names → number wide places ≡ Some (place, behind) → new ≡ old ++ x ∷ []
    → said x ≡ record { name = before_first ends_name names; place = place }
    → map said old ++ numbered left wide places names ≡ goal
    → map said new ++ numbered less wide behind (after_first ends_name names) ≡ goal
numbered-more said left less wide places names place behind old new x goal h k e pushed is before =
    pushed-one said old new x _ _ _ goal pushed is
    (ap (λ n. numbered n wide places names) h ∙ next-numbered less wide places names place behind k e) before

-- ---- the table `__.SYMDEF`

next-paired : (less : ℕ) (names pairs : List ℕ) (at place : ℕ) (middle behind : List ℕ)
    → low_number pairs ≡ Some (at, middle) → low_number middle ≡ Some (place, behind)
    → paired (suc less) names pairs ≡ record { name = name_at names at; place = place } ∷ paired less names behind
next-paired less names pairs at place middle behind d e =
    ap (λ o. option_map_or (λ at. option_map_or
    (λ p. record { name = name_at names at.0; place = p.0 } ∷ paired less names p.1) (low_number at.1) []) o []) d
    ∙ ap (λ o. option_map_or (λ p. record { name = name_at names at; place = p.0 } ∷ paired less names p.1) o []) e

pub paired-more : {X : Type 0} (said : X → Symbol) (left less : ℕ) (names pairs : List ℕ) (at place : ℕ)
    (middle behind : List ℕ) (old new : List X) (x : X) (goal : List Symbol)
    → left ≡ suc less → low_number pairs ≡ Some (at, middle) → low_number middle ≡ Some (place, behind)
    → new ≡ old ++ x ∷ [] → said x ≡ record { name = name_at names at; place = place }
    → map said old ++ paired left names pairs ≡ goal → map said new ++ paired less names behind ≡ goal
paired-more said left less names pairs at place middle behind old new x goal h d e pushed is before =
    pushed-one said old new x _ _ _ goal pushed is
    (ap (λ n. paired n names pairs) h ∙ next-paired less names pairs at place middle behind d e) before

-- ---- what isn't empty

pub nonempty : (n : ℕ) (b : Bool) → b ≡ (n == 0) → not b ≡ true → 0 < n
nonempty zero b e t = let no : not true ≡ true = ap not (sym e) ∙ t in absurd (false-true no)
  where
    false-true : false ≡ true → ⊥
    false-true h = cc
nonempty (suc n) b e t = omega arith
