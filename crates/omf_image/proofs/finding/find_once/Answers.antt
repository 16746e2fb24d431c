use Rattle.std.proofs.Common.{◌≡◌, ◌∙◌, ◌++◌, ◌∷◌, [], ℕ, List, true, false, nat_eq, length, ap, arith, refl, sym}
use Rattle.std.proofs.lemmas.Bool.{eqb-true}
use Rattle.omf_image.specs.inside.Stored.{once_at}
use Rattle.omf_image.proofs.finding.find_once.Goals as goal

some : (offset : ℕ) (hits : List ℕ) → nat_eq (length hits) 0 ≡ false → offset ∷ [] ≡ once_at offset hits
some offset [] e = cc
some offset (hit ∷ hits) e = refl

none : (offset : ℕ) (hits : List ℕ) → nat_eq (length hits) 0 ≡ true → [] ≡ once_at offset hits
none offset [] e = refl
none offset (hit ∷ hits) e = absurd (omega (arith, eqb-true (length (hit ∷ hits)) 0 e))

pub returns-in_ok-push : goal.returns-in_ok-push
returns-in_ok-push g c places h =
    c.in_ok-push.ensures.items
    ∙ ap (λ (found : List ℕ). found ++ c.from.result ∷ []) c.clear.ensures.items
    ∙ ap (λ (offset : ℕ). offset ∷ []) c.from.ensures
    ∙ some c.args.offset c.hits.result.now (sym c.is_empty.ensures ∙ c.if-not-is_empty.true)
    ∙ ap (once_at c.args.offset) (c.hits.ensures places h)

pub returns-else-not-is_empty : goal.returns-else-not-is_empty
returns-else-not-is_empty g c places h =
    c.clear.ensures.items
    ∙ none c.args.offset c.hits.result.now (sym c.is_empty.ensures ∙ c.if-not-is_empty.false)
    ∙ ap (once_at c.args.offset) (c.hits.ensures places h)
