-- Where a text is parted at the last of an ASCII character.
use Rattle.std.proofs.Common.{◌≡◌, ◌≢◌, ℕ, ◌+◌, ◌-◌, ◌<◌, zero, suc, List, ◌∷◌, ◌++◌, length, take, drop, get_or, arith}
use Rattle.std.proofs.Common.{None, Some, ap, ap₂, refl, sym, ◌∙◌, ⊎_elim}
use Rattle.std.proofs.lemmas.Bool.{cases_eq, cond-false, cond-true, eq-eqb, ne_eqb}
use Rattle.std.proofs.lemmas.List.{get_or-drop, length-drop, take-append-drop}
use Rattle.std.proofs.lemmas.Str.{len_utf8_ascii}
use Rattle.std.proofs.lemmas.Str.Pattern.{NoCharPasses-char, drop_at_char}
use Rattle.std.specs.Option.{option_map}
use Rattle.std.specs.Path.{rfind_below, rsplit_once}
use Rattle.std.specs.Str.Pattern.{RFindsChar, SplitsAroundMatch}

-- a byte that stands nowhere below n isn't found there
none-below : (c : ℕ) (text : List ℕ) (n : ℕ) → ((i : ℕ) → i < n → get_or text i 0 ≢ c) → rfind_below c text n ≡ None
none-below c text zero nowhere = refl
none-below c text (suc n) nowhere =
    cond-false _ _ _ (ne_eqb _ c (nowhere n (omega arith)))
    ∙ none-below c text n (λ i below. nowhere i (omega (arith, below)))

-- one that stands at k and nowhere behind it below n is found at k
last-below : (c : ℕ) (text : List ℕ) (k n : ℕ) → k < n → get_or text k 0 ≡ c
    → ((i : ℕ) → k < i → i < n → get_or text i 0 ≢ c) → rfind_below c text n ≡ Some k
last-below c text k zero below here later = absurd (omega (arith, below))
last-below c text k (suc n) below here later =
    ⊎_elim
    (λ last. cond-true _ _ _ (eq-eqb _ c (ap (λ i. get_or text i 0) (sym last) ∙ here)) ∙ ap (λ i. Some i) (sym last))
    (λ other.
    cond-false _ _ _ (ne_eqb _ c (later n (omega arith) (omega arith)))
    ∙ last-below c text k n (omega arith) here (λ i above under. later i above (omega (arith, under))))
    (cases_eq k n)

-- what `rsplit_once` promises, in the words of its definition: where there is no such character, and where there is one
pub split-none : (c : ℕ) (text : List ℕ) → RFindsChar c text None → c < 128 → rsplit_once c text ≡ None
unfolding rsplit_once
split-none c text found ascii =
    ap (option_map (λ n. (take n text, drop (n + 1) text)))
    (none-below c text (length text) (λ i. NoCharPasses-char c text i found ascii))

pub split-some : (c : ℕ) (text front back : List ℕ) → SplitsAroundMatch (RFindsChar c) text front back → c < 128
    → rsplit_once c text ≡ Some (front, back)
unfolding rsplit_once
split-some c text front back (i, j, (behind, at), before, after, ordered, long, whole) ascii =
    let next : j ≡ i + 1 = omega (arith, at.ends, len_utf8_ascii c ascii) in
    let later : (k : ℕ) → i < k → k < length text → get_or text k 0 ≢ c = λ k above under same.
    let back : j + (k - j) ≡ k = omega (arith, above, next) in
    NoCharPasses-char c (drop j text) (k - j) behind ascii (omega (arith, above, under, next, length-drop j text))
    (get_or-drop j text (k - j) 0 ∙ ap (λ n. get_or text n 0) back ∙ same) in
    ap (option_map (λ n. (take n text, drop (n + 1) text)))
    (last-below c text i (length text) (omega (arith, whole, next)) (at.byte ascii) later)
    ∙ ap₂ (λ (f b : List ℕ). Some (f, b)) (sym before) (sym (after ∙ ap (λ (n : ℕ). drop n text) next))

-- the text is both parts, with the character between them
pub split-whole : (c : ℕ) (text front back : List ℕ) → SplitsAroundMatch (RFindsChar c) text front back → c < 128
    → text ≡ front ++ (c ∷ back)
split-whole c text front back (i, j, (behind, at), before, after, ordered, long, whole) ascii =
    sym (take-append-drop i text)
    ∙ ap₂ (λ (f b : List ℕ). f ++ b) (sym before)
    (drop_at_char c text i j at ascii ∙ ap (λ (b : List ℕ). c ∷ b) (sym after))
