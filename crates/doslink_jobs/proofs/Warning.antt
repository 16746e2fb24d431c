-- Data records with a byte.
use Rattle.std.proofs.Common.{◌≡◌, ℕ, ◌==◌, nat_lt, Bool, true, false, true≢false, List, [], ◌∷◌}
use Rattle.std.proofs.Common.{length, refl, sym, ◌∙◌, arith}
use Rattle.std.proofs.lemmas.Bool.{eqb-true}
use Rattle.std.specs.List.{zip}

pub has-some : (places bytes : List ℕ) (b : Bool) → length bytes ≡ length places → b ≡ (length bytes == 0)
    → b ≡ false → nat_lt 0 (length (zip places bytes)) ≡ true
has-some places [] b same e t = absurd (true≢false (sym e ∙ t))
has-some [] (x ∷ bytes) b same e t = absurd (omega (arith, same))
has-some (p ∷ places) (x ∷ bytes) b same e t = grind (arith)

pub has-none : (places bytes : List ℕ) (b : Bool) → b ≡ (length bytes == 0) → b ≡ true
    → nat_lt 0 (length (zip places bytes)) ≡ false
has-none [] bytes b e t = refl
has-none (p ∷ places) [] b e t = refl
has-none (p ∷ places) (x ∷ bytes) b e t =
    let no : length (x ∷ bytes) ≡ 0 = eqb-true _ 0 (sym e ∙ t) in absurd (omega (arith, no))
