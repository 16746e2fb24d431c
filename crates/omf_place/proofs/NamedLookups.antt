-- Look-ups in a map, as look-ups in its entries by name.
use Rattle.std.proofs.Common.{◌≡◌, ℕ, Bool, true, false, cond, not, List, [], ◌∷◌, ◌++◌, Option, Some, None, Vec, map}
use Rattle.std.proofs.Common.{is_some, find, subst, refl, ap, sym, ◌∙◌}
use Rattle.std.specs.Option.{option_map}
use Rattle.indexmap.specs.IndexMap.{insert_entry}
use Rattle.std.specs.Map.{lookup}
use Rattle.omf_place.specs.inside.Named.{value_where}

abbrev pub vector_name : {A : Type 0} → Vec ℕ A → List ℕ
vector_name key = key.items

none_from : {A : Type 0} (o : Option A) → is_some o ≡ false → o ≡ None
none_from None e = refl
none_from (Some x) e = cc

value_of_cond : {N V : Type 0} (b : Bool) (e : N × V) (o : Option (N × V))
    → cond b (Some e.1) (option_map (λ p. p.1) o) ≡ option_map (λ p. p.1) (cond b (Some e) o)
value_of_cond true e o = refl
value_of_cond false e o = refl

-- keys that have names
module _ {K V : Type 0} (f : K → List ℕ) where
  abbrev pub named : List (K × V) → List (List ℕ × V)
  named es = map (λ e. (f e.0, e.1)) es

  pub lookup-named : (test : List ℕ → Bool) (es : List (K × V))
      → lookup (λ k. test (f k)) es ≡ value_where test (named es)
  lookup-named test [] = refl
  lookup-named test (e ∷ es) =
      ap (λ o. cond (test (f e.0)) (Some e.1) o) (lookup-named test es)
      ∙ value_of_cond (test (f e.0)) (f e.0, e.1) (find (λ n. test n.0) (named es))

  module _ (same : List ℕ → List ℕ → Bool) where
    named-insert : (key : K) (v : V) (es : List (K × V)) → value_where (same (f key)) (named es) ≡ None →
        named (insert_entry (λ a b. same (f a) (f b)) es key v) ≡ named es ++ (f key, v) ∷ []
    named-insert key v [] h = refl
    named-insert key v (e ∷ es) h =
        (elim (same (f key) (f e.0)) as (λ b.
        option_map (λ (n : List ℕ × V). n.1)
        (cond b (Some (f e.0, e.1)) (find (λ n. same (f key) n.0) (named es))) ≡ None →
        named (cond b ((e.0, v) ∷ es) (e ∷ insert_entry (λ a c. same (f a) (f c)) es key v))
        ≡ (f e.0, e.1) ∷ (named es ++ (f key, v) ∷ []))
        [ true ↦ λ g. cc | false ↦ λ g. ap (λ xs. (f e.0, e.1) ∷ xs) (named-insert key v es g) ]) h

    named-insert_new : (key : K) (name : List ℕ) (v : V) (es : List (K × V)) → f key ≡ name →
        value_where (same name) (named es) ≡ None →
        named (insert_entry (λ a b. same (f a) (f b)) es key v) ≡ named es ++ (name, v) ∷ []
    named-insert_new key name v es e h =
        named-insert key v es (subst (λ n. value_where (same n) (named es) ≡ None) (sym e) h)
        ∙ ap (λ n. named es ++ (n, v) ∷ []) e

    -- what the insertion of a key that has a name says of an earlier entry
    module _ (key : K) (name : List ℕ) (es : List (K × V)) (earlier : Option V) (fresh : Bool) (at : f key ≡ name)
        (was : earlier ≡ lookup (λ k. same (f key) (f k)) es) (is : is_some earlier ≡ not fresh) where
      earlier-named : earlier ≡ value_where (same name) (named es)
      earlier-named = was ∙ lookup-named (same (f key)) es ∙ ap (λ n. value_where (same n) (named es)) at

      pub insert-absent : fresh ≡ true → value_where (same name) (named es) ≡ None
      insert-absent t = none_from _ (ap is_some (sym earlier-named) ∙ is ∙ ap not t)

      pub insert-there : fresh ≡ false → is_some (value_where (same name) (named es)) ≡ true
      insert-there t = ap is_some (sym earlier-named) ∙ is ∙ ap not t

      pub insert-fresh : (v : V) → fresh ≡ true
          → named (insert_entry (λ a b. same (f a) (f b)) es key v) ≡ named es ++ (name, v) ∷ []
      insert-fresh v t = named-insert_new key name v es at (insert-absent t)
