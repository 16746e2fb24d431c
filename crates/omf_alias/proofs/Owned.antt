-- What names mean by aliases, and by those of a module behind them, as both are held.
use Rattle.std.proofs.Common.{◌≡◌, ℕ, List, [], Option, None, Some, refl, sym, ap, ◌∙◌}
use Rattle.std.proofs.lemmas.List.{append-nil}
use Rattle.std.specs.Borrow.{Bor}
use Rattle.std.specs.Option.{option_and_then}
use Rattle.omf_place.specs.declared.names.Names.{Names}
use Rattle.omf_alias.specs.Layered.{both_said, said_of}
use Rattle.omf_alias.specs.Lent.{aliases_said}
use Rattle.omf_alias.specs.Meaning.{meaning}
use Rattle.omf_alias.specs.declared.named.NamedValue.{NamedValue}
use Rattle.omf_alias.specs.declared.reading.Alias.{Alias}
use Rattle.omf_alias.specs.Told.{told}
use Rattle.omf_alias.specs.Layers.{own_through}
use Rattle.omf_alias.proofs.Layers.{layers}

then-same : (f g : List ℕ → Option (List ℕ)) → ((m : List ℕ) → f m ≡ g m) → (o : Option (List ℕ))
    → option_and_then f o ≡ option_and_then g o
then-same f g same None = refl
then-same f g same (Some m) = same m

abbrev Ends : Type 0
Ends = List (NamedValue (Option (Bor (List ℕ))))

pub own-means : (names : Names) (aliases own : List Alias) (ends own_ends : Ends)
    → ((name : List ℕ) → told names ends name ≡ meaning (said_of names aliases) name)
    → ((name : List ℕ) → told names own_ends name
    ≡ meaning (own_through (said_of names aliases) (aliases_said own)) name)
    → (name : List ℕ) → option_and_then (told names own_ends) (told names ends name)
    ≡ meaning (both_said names aliases own) name
own-means names aliases own ends own_ends means own_means name =
    let r = said_of names aliases in
    ap (option_and_then (told names own_ends)) (means name)
    ∙ then-same (told names own_ends) (meaning (own_through r (aliases_said own))) own_means (meaning r name)
    ∙ sym (layers r (aliases_said own) name)

same-told : (names : Names) (o : Option (List ℕ)) → option_and_then (told names []) o ≡ o
same-told names None = refl
same-told names (Some m) = refl

pub plain-means : (names : Names) (aliases : List Alias) (ends : Ends)
    → ((name : List ℕ) → told names ends name ≡ meaning (said_of names aliases) name)
    → (name : List ℕ) → option_and_then (told names []) (told names ends name) ≡ meaning (both_said names aliases []) name
plain-means names aliases ends means name =
    same-told names (told names ends name) ∙ means name
    ∙ ap (λ l. meaning (record { names = names; aliases = l }) name) (sym (append-nil (aliases_said aliases)))
