-- Where a text is parted at the last of an ASCII character.
use Rattle.std.proofs.Common.{◌≡◌, ◌≢◌, ℕ, ◌+◌, ◌-◌, ◌<◌, zero, suc, List, length, take, drop, get_or, arith}
use Rattle.std.proofs.Common.{MatchOption, None, Option, Some, ap, refl, sym, ◌∙◌, ⊎_elim}
use Rattle.std.proofs.lemmas.Bool.{cases_eq, cond-false, cond-true, eq-eqb, ne_eqb}
use Rattle.std.proofs.lemmas.List.{get_or-drop, length-drop}
use Rattle.std.proofs.lemmas.Str.{len_utf8_ascii}
use Rattle.std.proofs.lemmas.Str.Pattern.{NoCharPasses-char}
use Rattle.std.specs.Borrow.{Bor}
use Rattle.std.specs.Option.{option_map, option_map_or}
use Rattle.std.specs.Path.{rfind_below, rsplit_once}
use Rattle.std.specs.Str.Pattern.{RFindsChar, SplitsAroundMatch}

-- a byte that stands nowhere below n isn't found there
none-below : (c : ℕ) (text : List ℕ) (n : ℕ) → ((i : ℕ) → i < n → get_or text i 0 ≢ c) → rfind_below c text n ≡ None
none-below c text zero nowhere = refl
none-below c text (suc n) nowhere =
    cond-false _ _ _ (ne_eqb _ c (nowhere n (omega arith)))
    ∙ none-below c text n (λ i below. nowhere i (omega (arith, below)))

-- one that stands at k and nowhere behind it below n is found at k
last-below : (c : ℕ) (text : List ℕ) (k n : ℕ) → k < n → get_or text k 0 ≡ c
    → ((i : ℕ) → k < i → i < n → get_or text i 0 ≢ c) → rfind_below c text n ≡ Some k
last-below c text k zero below here later = absurd (omega (arith, below))
last-below c text k (suc n) below here later =
    ⊎_elim
    (λ last. cond-true _ _ _ (eq-eqb _ c (ap (λ i. get_or text i 0) (sym last) ∙ here)) ∙ ap (λ i. Some i) (sym last))
    (λ other.
    cond-false _ _ _ (ne_eqb _ c (later n (omega arith) (omega arith)))
    ∙ last-below c text k n (omega arith) here (λ i above under. later i above (omega (arith, under))))
    (cases_eq k n)

-- what stands before the last of an ASCII character, by what `rsplit_once` promises
pub front-of-split : (c : ℕ) (text : List ℕ) (r : Option (Bor (List ℕ) × Bor (List ℕ)))
    → MatchOption r (RFindsChar c text None) (λ x. SplitsAroundMatch (RFindsChar c) text x.0.now x.1.now) → c < 128
    → option_map_or (λ x. x.0.now) r text ≡ option_map_or (λ parts. parts.0) (rsplit_once c text) text
unfolding rsplit_once
front-of-split c text None found ascii =
    let front : Option ℕ → List ℕ = λ o.
    option_map_or {T = List ℕ × List ℕ} (λ parts. parts.0)
    (option_map (λ i. (take i text, drop (i + 1) text)) o) text in
    sym (ap front (none-below c text (length text) (λ i. NoCharPasses-char c text i found ascii)))
front-of-split c text (Some x) (i, j, (behind, at), before, after, ordered, long, whole) ascii =
    let front : Option ℕ → List ℕ = λ o.
    option_map_or {T = List ℕ × List ℕ} (λ parts. parts.0)
    (option_map (λ n. (take n text, drop (n + 1) text)) o) text in
    let next : j ≡ i + 1 = omega (arith, at.ends, len_utf8_ascii c ascii) in
    let later : (k : ℕ) → i < k → k < length text → get_or text k 0 ≢ c = λ k above under same.
    let back : j + (k - j) ≡ k = omega (arith, above, next) in
    NoCharPasses-char c (drop j text) (k - j) behind ascii (omega (arith, above, under, next, length-drop j text))
    (get_or-drop j text (k - j) 0 ∙ ap (λ n. get_or text n 0) back ∙ same) in
    before ∙ sym (ap front (last-below c text i (length text) (omega (arith, whole, next)) (at.byte ascii) later))

-- what stands behind it, and another text where there is none
pub back-of-split : (c : ℕ) (text other : List ℕ) (r : Option (Bor (List ℕ) × Bor (List ℕ)))
    → MatchOption r (RFindsChar c text None) (λ x. SplitsAroundMatch (RFindsChar c) text x.0.now x.1.now) → c < 128
    → option_map_or (λ x. x.1.now) r other ≡ option_map_or (λ parts. parts.1) (rsplit_once c text) other
unfolding rsplit_once
back-of-split c text other None found ascii =
    let back : Option ℕ → List ℕ = λ o.
    option_map_or {T = List ℕ × List ℕ} (λ parts. parts.1)
    (option_map (λ i. (take i text, drop (i + 1) text)) o) other in
    sym (ap back (none-below c text (length text) (λ i. NoCharPasses-char c text i found ascii)))
back-of-split c text other (Some x) (i, j, (behind, at), before, after, ordered, long, whole) ascii =
    let back : Option ℕ → List ℕ = λ o.
    option_map_or {T = List ℕ × List ℕ} (λ parts. parts.1)
    (option_map (λ n. (take n text, drop (n + 1) text)) o) other in
    let next : j ≡ i + 1 = omega (arith, at.ends, len_utf8_ascii c ascii) in
    let later : (k : ℕ) → i < k → k < length text → get_or text k 0 ≢ c = λ k above under same.
    let here : j + (k - j) ≡ k = omega (arith, above, next) in
    NoCharPasses-char c (drop j text) (k - j) behind ascii (omega (arith, above, under, next, length-drop j text))
    (get_or-drop j text (k - j) 0 ∙ ap (λ n. get_or text n 0) here ∙ same) in
    after ∙ ap (λ n. drop n text) next
    ∙ sym (ap back (last-below c text i (length text) (omega (arith, whole, next)) (at.byte ascii) later))
