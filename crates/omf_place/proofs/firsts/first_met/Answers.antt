use Rattle.std.proofs.Common.{◌≡◌, ℕ, Bool, true, false, cond, Option, Some, None, is_some, unwrap_or, refl, ap}
use Rattle.std.proofs.Common.{◌∙◌, arith}
use Rattle.indexmap.specs.IndexMap.{get, get_by}
use Rattle.omf_place.proofs.firsts.first_met.Goals as goal

none_of : (o : Option ℕ) → is_some o ≡ false → o ≡ None
none_of None h = refl
none_of (Some x) h = cc

some_of : (o : Option ℕ) (d : ℕ) → is_some o ≡ true → Some (unwrap_or o d) ≡ o
some_of None d h = cc
some_of (Some x) d h = refl

-- what is written anew where it stood changes no look-up
kept_at : (b : Bool) (v : ℕ) (here old new : Option ℕ) → new ≡ cond b (Some v) old → (b ≡ true → here ≡ old)
    → Some v ≡ here → new ≡ old
kept_at true v here old new n same is = n ∙ is ∙ same refl
kept_at false v here old new n same is = n

pub returns-clause-first : goal.returns-clause-first
returns-clause-first g c =
    c.or_insert.ensures.value ∙ ap (λ o. unwrap_or o c.args.place) c.in_ok-met.ensures.value

pub returns-clause-kept : goal.returns-clause-kept
returns-clause-kept g c q there =
    let eq = g.K.PartialEq.eq in
    let old = c.args.met.now in
    let value : c.or_insert.result.now ≡ unwrap_or (get eq old c.args.key) c.args.place =
    c.or_insert.ensures.value ∙ ap (λ o. unwrap_or o c.args.place) c.in_ok-met.ensures.value in
    let h =
    kept_at (eq c.args.key q) c.or_insert.result.now (get eq old c.args.key) (get eq old q) _
    ((c.in_ok-met.ensures.update.0 c.or_insert.result.now).0 q)
    (λ e. ap (λ p. get_by p old) (λ j. λ x. g.met.K.Eq.laws.congr c.args.key q x e j))
    (ap (λ v. Some v) value ∙ some_of (get eq old c.args.key) c.args.place there) in
    grind (arith, h, c.in_ok-met.ensures.same_map)

pub returns-clause-added : goal.returns-clause-added
returns-clause-added g c q new =
    let eq = g.K.PartialEq.eq in
    let old = c.args.met.now in
    let none : get eq old c.args.key ≡ None = none_of _ new in
    let place : c.or_insert.result.now ≡ c.args.place =
    c.or_insert.ensures.value ∙ ap (λ o. unwrap_or o c.args.place) (c.in_ok-met.ensures.value ∙ none) in
    let h =
    (c.in_ok-met.ensures.update.0 c.or_insert.result.now).0 q
    ∙ ap (λ v. cond (eq c.args.key q) (Some v) (get eq old q)) place in
    grind (arith, h, c.in_ok-met.ensures.same_map)
