-- Whether each of some names is one that a module can have.
use Rattle.std.proofs.Common.{◌≡◌, ℕ, ◌+◌, ◌<◌, ◌≤◌, Bool, true, ◌&&◌, List, length, drop, get_or, sym, ap, ◌∙◌}
use Rattle.std.proofs.lemmas.List.{at_drop_all, drop_more}
use Rattle.std.specs.Borrow.{Bor}
use Rattle.std.specs.List.{list_all}
use Rattle.clap.specs.Words.{Text}
use Rattle.doslink_words.specs.Directives.{is_name}
use Rattle.doslink_words.specs.Tokens.{texts}

-- those from one on
abbrev pub all_from : List (Bor Text) → ℕ → Bool
all_from names i = list_all is_name (texts (drop i names))

-- the first of them is one or isn't
pub all-here : (names : List (Bor Text)) (i : ℕ) (d : Bor Text) (b all : Bool) → i < length names
    → is_name (get_or names i d).now ≡ b → all_from names i ≡ all → (b && all_from names (i + 1)) ≡ all
all-here names i d b all h here was =
    sym (ap (λ (ns : List (Bor Text)). list_all is_name (texts ns)) (drop_more names i d h)
    ∙ ap (λ c. c && all_from names (i + 1)) here) ∙ was

-- none is left
pub all-none : (names : List (Bor Text)) (i : ℕ) (all : Bool) → length names ≤ i → all_from names i ≡ all → true ≡ all
all-none names i all h was =
    sym (at_drop_all (λ (ns : List (Bor Text)). list_all is_name (texts ns)) names i h) ∙ was
