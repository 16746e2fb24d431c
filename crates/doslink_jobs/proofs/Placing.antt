-- What is told of places, by what a look answers.
use Rattle.std.proofs.Common.{◌≡◌, ◌≢◌, ◌==◌, ◌&&◌, Bool, true, false, true≢false, List, [], ◌∷◌, length, None, Some}
use Rattle.std.proofs.Common.{IfSome, is_none, is_some, refl, sym, ◌∙◌}
use Rattle.std.specs.Option.{option_map_or}
use Rattle.std.specs.declared.option.Option.{Option}

-- what is answered is what is told
pub same-told : {L : Type 0} (looks : Option L) (says : L → Bool) (answer is : Bool)
    → IfSome looks (λ look. answer ≡ says look) → answer ≡ is → IfSome looks (λ look. says look ≡ is)
same-told None says answer is same known = tt
same-told (Some look) says answer is same known = sym same ∙ known

-- something is named
pub not-empty : {X : Type 0} (xs : List X) → (length xs == 0) ≡ false → xs ≢ []
not-empty [] is none = absurd (true≢false is)
not-empty (x ∷ xs) is none = cc

-- none is there
pub not-some : {X : Type 0} (o : Option X) → ((x : X) → o ≡ Some x → ⊥) → is_some o ≡ false
not-some None none = refl
not-some (Some x) none = absurd (none x refl)

-- nothing is asked of what isn't given
pub out-none : {X : Type 0} (asks : X → Bool) (out : Option X) → ((x : X) → out ≡ Some x → ⊥)
    → option_map_or asks out false ≡ false
out-none asks None none = refl
out-none asks (Some x) none = absurd (none x refl)

-- where a form is said
pub form-said : {X : Type 0} (form : Option X) (asks : Bool) → is_some form ≡ true → (is_none form && asks) ≡ false
form-said None asks said = absurd (true≢false (sym said))
form-said (Some f) asks said = refl

-- and where none is
pub form-unsaid : {X : Type 0} (form : Option X) (asks is : Bool) → is_some form ≡ false → asks ≡ is
    → (is_none form && asks) ≡ is
form-unsaid None asks is unsaid same = same
form-unsaid (Some f) asks is unsaid same = absurd (true≢false unsaid)
