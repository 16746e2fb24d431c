-- What is printed, by the lines of what is amiss.
use Rattle.std.proofs.Common.{◌≡◌, ◌==◌, ℕ, true, false, not, if◌then◌else◌, List, length, codes, sym, ap}
use Rattle.std.proofs.Common.{◌∙◌}
use Rattle.omf_place.specs.declared.names.Names.{Names as Choice}
use Rattle.doslib_names.specs.Lines.{amiss, is_amiss, names_text}
use Rattle.doslib_names.specs.Names.{Held}

pub none-amiss : (names : Choice) (held : List Held) (lines : List ℕ) → lines ≡ amiss names held
    → (length lines == 0) ≡ true → is_amiss names held ≡ false
unfolding is_amiss
none-amiss names held lines is none = ap (λ l. not (length l == 0)) (sym is) ∙ ap not none

pub some-amiss : (names : Choice) (held : List Held) (lines : List ℕ) → lines ≡ amiss names held
    → (length lines == 0) ≡ false → is_amiss names held ≡ true
unfolding is_amiss
some-amiss names held lines is some = ap (λ l. not (length l == 0)) (sym is) ∙ ap not some

pub text-of-none : (names : Choice) (held : List Held) → is_amiss names held ≡ false
    → names_text names held ≡ codes "each name that is wanted is defined once\n"
unfolding names_text
text-of-none names held none =
    ap (λ t. if t then amiss names held else codes "each name that is wanted is defined once\n") none

pub text-of-some : (names : Choice) (held : List Held) → is_amiss names held ≡ true
    → names_text names held ≡ amiss names held
unfolding names_text
text-of-some names held some =
    ap (λ t. if t then amiss names held else codes "each name that is wanted is defined once\n") some
