-- What modules mean that are linked, step by step.
use Rattle.std.proofs.Common.{◌≡◌, ℕ, Bool, true, false, List, [], ◌∷◌, length, zip, refl, subst, ap, ◌∙◌, arith, suc}
use Rattle.std.proofs.lemmas.List.{length-map}
use Rattle.omf_module.specs.Grouped.{grouped}
use Rattle.omf_module.specs.Module.{Module}
use Rattle.omf_place.specs.Classes.{TellsFit}
use Rattle.doslink_passes.specs.Linked.{Linked}
use Rattle.doslink_passes.specs.Meant.{AreMeant, ArePacked, Taking, far_data, far_group, with_defaults}

-- whether far data stands in one frame, as it is told
pub fit-of : (class : List ℕ) (held modules : List Module) (told fits : Bool) → TellsFit held class told
    → held ≡ modules → told ≡ fits → TellsFit modules class fits
fit-of class held modules told fits tells are is =
    subst (λ ms. TellsFit ms class fits) are (subst (TellsFit held class) is tells)

-- ---- how many there are

packed-count : (packs : Bool) (modules packed : List Module) → ArePacked packs modules packed
    → length packed ≡ length modules
packed-count false modules packed same = ap length same
packed-count true modules packed (true, tells, same) =
    ap length same ∙ length-map modules (grouped far_data far_group)
packed-count true modules packed (false, tells, same) = ap length same

zip-count : {X Y : Type 0} (xs : List X) (ys : List Y) → length xs ≡ length ys → length (zip xs ys) ≡ length ys
zip-count [] [] even = refl
zip-count [] (y ∷ ys) even = absurd (omega (arith, even))
zip-count (x ∷ xs) [] even = absurd (omega (arith, even))
zip-count (x ∷ xs) (y ∷ ys) even = ap suc (zip-count xs ys (omega (arith, even)))

-- as many as there were
pub meant-count : (t : Taking) (l : Linked) (meant : List Module) → AreMeant t l meant
    → length l.sources ≡ length l.modules → length meant ≡ length l.modules
meant-count t l meant are even =
    packed-count t.packs _ meant are ∙ length-map (zip l.sources l.modules) (with_defaults t.names t.says)
    ∙ zip-count l.sources l.modules even
