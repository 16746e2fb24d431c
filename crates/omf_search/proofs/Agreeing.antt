-- What a map has for names.
use Rattle.std.proofs.Common.{◌≡◌, List, ℕ, Bool, true, false, cond, Option, Some, None, is_some, refl, ap, sym, ◌∙◌}
use Rattle.std.specs.Borrow.{Bor}
use Rattle.std.specs.Map.{lookup}
use Rattle.std.specs.Option.{option_or}
use Rattle.std.specs.Ordering.{is_eq}
use Rattle.omf_place.specs.Names.{agrees}
use Rattle.omf_place.specs.declared.names.Names.{Names}
use Rattle.omf_keys.specs.declared.key.Key.{Key}
use Rattle.omf_keys.specs.Keys.{key_of, key_order}
use Rattle.omf_keys.proofs.Agreeing.{key_ties, keys_agree, keys_are_one}
use Rattle.omf_search.specs.declared.name_map.NameMap.{NameMap}
use Rattle.omf_search.specs.Keys.{value_of}

-- a map has one value for names that agree
pub same_value : {V A : Type 0} (names : Names) (m : NameMap V A) (x y : Bor (List ℕ))
    → agrees names x.now y.now ≡ true → value_of names m x ≡ value_of names m y
unfolding value_of
same_value names m x y e =
    let at : (k : Bor (List ℕ)) → (l : Key) → Bool = λ k l. is_eq (key_order (key_of names k) l) in
    let one : at x ≡ at y = λ j. λ l.
    (sym (key_ties (key_of names x) l)
    ∙ keys_are_one.congr (key_of names x) (key_of names y) l (keys_agree names x y ∙ e)
    ∙ key_ties (key_of names y) l) j in
    ap (λ t. lookup t m.entries.entries) one

-- a value that is kept where there is one, and added where there is none
pub inserted : {X : Type 0} (v : X) (hit found : Bool) (old new : Option X) → (found ≡ true → new ≡ old) →
    (found ≡ false → new ≡ cond hit (Some v) old) → (hit ≡ true → is_some old ≡ found) →
    new ≡ option_or old (cond hit (Some v) None)
inserted v hit true (Some x) new kept added same = kept refl
inserted v hit false None new kept added same = added refl
inserted v true false (Some x) new kept added same = absurd (let u : true ≡ false = same refl in cc)
inserted v false false (Some x) new kept added same = added refl
inserted v true true None new kept added same = absurd (let u : false ≡ true = same refl in cc)
inserted v false true None new kept added same = kept refl
