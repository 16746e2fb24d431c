-- What the code makes of the variables so far, with one declaration more.
use Rattle.std.proofs.Common.{◌≡◌, ℕ, ◌<◌, List, [], ◌∷◌, ◌++◌, length, map, get_or, Some, None, Ok, Err, MatchResult}
use Rattle.std.proofs.Common.{ap, sym, subst, ◌∙◌, arith}
use Rattle.std.proofs.Math.ListN.{set}
use Rattle.std.proofs.lemmas.List.{get_or-map, length-map, map-set}
use Rattle.std.specs.Borrow.{Bor}
use Rattle.std.specs.Map.{lookup}
use Rattle.std.specs.declared.result.Result.{Result}
use Rattle.omf_library.specs.Records.{result_and_then}
use Rattle.omf_place.specs.declared.names.Names.{Names}
use Rattle.omf_communal.specs.declared.declarations.Variable as lent
use Rattle.omf_communal.specs.declared.declarations.Extent.{Extent}
use Rattle.omf_communal.specs.declared.fault.ClashFault.{ClashFault}
use Rattle.omf_communal.specs.declared.fault.ClashFault.TheVariants.{Memory}
use Rattle.omf_keys.specs.declared.key.Key.{Key}
use Rattle.omf_communal.specs.Modules.{Declared}
use Rattle.omf_communal.specs.Deciding.{IsClash, Variable, fresh, greater, meet, variable_said, widened}
use Rattle.omf_keys.specs.Keys.{key_of, same_key}
use Rattle.omf_communal.specs.inside.Met.{place_of}
use Rattle.omf_communal.proofs.Meeting.{clash-through, meets_clash, meets_new, meets_old, place_in, same_place}

-- a variable keeps its name
widened-name : (v : Variable) (d : Declared) (w : Variable) → widened v d ≡ Ok w → w.name ≡ v.name
widened-name v d w e = by (greater v.first v.extent d.whose d.extent) e
  where
    by : (r : Result Extent ClashFault)
        → result_and_then
        (λ x. let u : Result Variable ClashFault = Ok (record { name = v.name; extent = x; first = v.first }) in u) r
        ≡ Ok w → w.name ≡ v.name
    by (Ok x) u =
        let made : Variable = record { name = v.name; extent = x; first = v.first } in
        let r : Result Variable ClashFault = Ok made in
        let q : r ≡ Ok w = u in let is : made ≡ w = cc in sym (ap (λ (y : Variable). y.name) is)
    by (Err f) u = absurd (cc)

module _ (names : Names) (d : Declared) (old new : List lent.Variable) (k : ℕ) (v w : lent.Variable)
    (at : place_of names d.name (map variable_said old) ≡ Some k) (is : v ≡ get_or old k v)
    (put : new ≡ set old k w) where
  within : k < length old
  within =
      let h = place_in names d (map variable_said old) k at in let len = length-map old variable_said in omega arith

  there : get_or (map variable_said old) k (variable_said v) ≡ variable_said v
  there = get_or-map variable_said old k v (variable_said v) within ∙ ap variable_said (sym is)

  now_is : map variable_said new ≡ set (map variable_said old) k (variable_said w)
  now_is = ap (map variable_said) put ∙ map-set variable_said old k w

  widened_met : widened (variable_said v) d ≡ Ok (variable_said w)
      → meet names d (map variable_said old) ≡ Ok (map variable_said new)
  widened_met e =
      meets_old names d (map variable_said old) k (variable_said v) (variable_said w) at
      (ap (λ x. widened x d) there ∙ e) ∙ ap Ok (sym now_is)

  widened_clash : (f : ClashFault) → widened (variable_said v) d ≡ Err f → meet names d (map variable_said old) ≡ Err f
  widened_clash f e =
      meets_clash names d (map variable_said old) k (variable_said v) f at (ap (λ x. widened x d) there ∙ e)

  pub met_through : {U : Type 0} (r : Result U ClashFault) →
      MatchResult r (λ _. widened (variable_said v) d ≡ Ok (variable_said w))
      (λ e. IsClash e (widened (variable_said v) d)) →
      MatchResult r (λ _. meet names d (map variable_said old) ≡ Ok (map variable_said new))
      (λ e. IsClash e (meet names d (map variable_said old)))
  met_through (Ok u) h = widened_met h
  met_through (Err e) h =
      clash-through e (widened (variable_said v) d) (meet names d (map variable_said old)) h widened_clash

  pub kept_through : {U : Type 0} (r : Result U ClashFault) (places : List (Key × ℕ)) →
      MatchResult r (λ _. widened (variable_said v) d ≡ Ok (variable_said w))
      (λ e. IsClash e (widened (variable_said v) d)) →
      ((q : Bor (List ℕ)) → lookup (same_key (key_of names q)) places ≡ place_of names q.now (map variable_said old)) →
      MatchResult r
      (λ _.
      (q : Bor (List ℕ)) → lookup (same_key (key_of names q)) places ≡ place_of names q.now (map variable_said new))
      (λ _. Unit {0})
  kept_through (Ok u) places h was = λ q.
      was q ∙ sym (ap (place_of names q.now) now_is
      ∙ same_place names q.now (map variable_said old) k (variable_said w) (variable_said v)
      (widened-name (variable_said v) d (variable_said w) h ∙ ap (λ (x : Variable). x.name) (sym there)))
  kept_through (Err e) places h was = tt

-- a declaration of a new name
pub added_through : {U : Type 0} (names : Names) (d : Declared) (old new : List Variable) (r : Result U ClashFault) →
    place_of names d.name old ≡ None →
    MatchResult r (λ _. new ≡ old ++ fresh d ∷ []) (λ e. e ≡ Memory) →
    MatchResult r (λ _. meet names d old ≡ Ok new) (λ e. IsClash e (meet names d old))
added_through names d old new (Ok u) none h = meets_new names d old none ∙ ap Ok (sym h)
added_through names d old new (Err e) none h = subst (λ f. IsClash f (meet names d old)) (sym h) tt
