-- What bytes have that agree with a pattern.
use Rattle.std.proofs.Common.{◌≡◌, ℕ, zero, suc, ◌+◌, ◌*◌, ◌-◌, ◌<◌, ◌≤◌, Bool, true, false, ◌&&◌, ◌%◌, ◌==◌}
use Rattle.std.proofs.Common.{List, [], ◌∷◌, length, drop, get_or, Some, None, Option, refl, sym, ap, ap₂, ◌∙◌}
use Rattle.std.proofs.Common.{arith, length-drop, get_or-drop, eqb-true, subst}
use Rattle.std.proofs.lemmas.Bool.{and_parts, and_right}
use Rattle.std.proofs.lemmas.List.{drop_more, drop_all}
use Rattle.byte_places.specs.Places.{allows, agrees, stands}
use Rattle.byte_places.specs.Chains.{word_at}
use Rattle.byte_places.specs.inside.Anchors.{IsAnchor}

-- ---- step by step

-- too few bytes
pub agrees-short : (pattern : List (Option ℕ)) (bytes : List ℕ) → length bytes < length pattern
    → false ≡ agrees pattern bytes
agrees-short [] bytes h = absurd (omega (arith, h))
agrees-short (c ∷ cs) [] h = refl
agrees-short (c ∷ cs) (b ∷ bs) h =
    sym (and_right (allows c b) (agrees cs bs) (sym (agrees-short cs bs (omega (arith, h)))))

-- what is left from one cell on
left-at : (pattern : List (Option ℕ)) (bytes : List ℕ) (i : ℕ) (d : Option ℕ) → i < length pattern → i < length bytes
    → agrees (drop i pattern) (drop i bytes)
    ≡ (allows (get_or pattern i d) (get_or bytes i 0) && agrees (drop (i + 1) pattern) (drop (i + 1) bytes))
left-at pattern bytes i d h k = ap₂ agrees (drop_more pattern i d h) (drop_more bytes i 0 k)

pub agrees-more : (pattern : List (Option ℕ)) (bytes : List ℕ) (i : ℕ) (d : Option ℕ) (r : Bool) → i < length pattern
    → i < length bytes → allows (get_or pattern i d) (get_or bytes i 0) ≡ true
    → agrees (drop i pattern) (drop i bytes) ≡ r → agrees (drop (i + 1) pattern) (drop (i + 1) bytes) ≡ r
agrees-more pattern bytes i d r h k holds before =
    sym (left-at pattern bytes i d h k
    ∙ ap (λ t. t && agrees (drop (i + 1) pattern) (drop (i + 1) bytes)) holds) ∙ before

pub agrees-stop : (pattern : List (Option ℕ)) (bytes : List ℕ) (i : ℕ) (d : Option ℕ) (r : Bool) → i < length pattern
    → i < length bytes → allows (get_or pattern i d) (get_or bytes i 0) ≡ false
    → agrees (drop i pattern) (drop i bytes) ≡ r → false ≡ r
agrees-stop pattern bytes i d r h k fails before =
    sym (left-at pattern bytes i d h k
    ∙ ap (λ t. t && agrees (drop (i + 1) pattern) (drop (i + 1) bytes)) fails) ∙ before

pub agrees-done : (pattern : List (Option ℕ)) (bytes : List ℕ) (i : ℕ) (r : Bool) → length pattern ≤ i
    → agrees (drop i pattern) (drop i bytes) ≡ r → true ≡ r
agrees-done pattern bytes i r h before =
    ap (λ cells. agrees cells (drop i bytes)) (sym (drop_all i pattern h)) ∙ before

-- a byte that isn't what is asked for
pub refused : (pattern : List (Option ℕ)) (bytes : List ℕ) (i : ℕ) (d : Option ℕ) → i < length pattern
    → i < length bytes → allows (get_or pattern i d) (get_or bytes i 0) ≡ false → agrees pattern bytes ≡ false
refused [] bytes i d h k is = absurd (omega (arith, h))
refused (c ∷ cs) [] i d h k is = refl
refused (c ∷ cs) (b ∷ bs) zero d h k is = ap (λ t. t && agrees cs bs) is
refused (c ∷ cs) (b ∷ bs) (suc i) d h k is =
    and_right (allows c b) (agrees cs bs) (refused cs bs i d (omega (arith, h)) (omega (arith, k)) is)

-- the same of a pattern at a place of an image, by the place of the byte
pub refused-at : (pattern : List (Option ℕ)) (image : List ℕ) (place at i : ℕ) (d : Option ℕ) → i ≡ at - place
    → place ≤ at → at < length image → i < length pattern
    → allows (get_or pattern i d) (get_or image at 0) ≡ false → agrees pattern (drop place image) ≡ false
refused-at pattern image place at i d same h k inside is =
    let whole : place + i ≡ at = omega (arith, same, h) in
    let len = length-drop place image in
    refused pattern (drop place image) i d inside (omega (arith, len, whole, k))
    (ap (allows (get_or pattern i d)) (get_or-drop place image i 0 ∙ ap (λ n. get_or image n 0) whole) ∙ is)

-- ---- what is there

-- a byte that is asked for
pub asked : (pattern : List (Option ℕ)) (bytes : List ℕ) (i w : ℕ) → agrees pattern bytes ≡ true
    → get_or pattern i None ≡ Some w → (i < length bytes) × (get_or bytes i 0 ≡ w)
asked [] bytes i w holds is = grind (arith, holds, is)
asked (c ∷ cs) [] i w holds is = grind (arith, holds, is)
asked (c ∷ cs) (b ∷ bs) zero w holds is =
    let both = and_parts (allows c b) (agrees cs bs) holds in
    let same : allows (Some w) b ≡ true = subst (λ t. allows t b ≡ true) is both.0 in
    (omega arith, sym (eqb-true w b same))
asked (c ∷ cs) (b ∷ bs) (suc i) w holds is =
    let both = and_parts (allows c b) (agrees cs bs) holds in
    let rest = asked cs bs i w both.1 is in
    (omega (arith, rest.0), rest.1)

-- a byte that is asked for, of a pattern that stands at a place
pub stands-asked : (pattern : List (Option ℕ)) (alignment : ℕ) (image : List ℕ) (place i w : ℕ)
    → stands pattern alignment image place ≡ true → get_or pattern i None ≡ Some w
    → (place + i < length image) × (get_or image (place + i) 0 ≡ w)
stands-asked pattern alignment image place i w holds is =
    let both = and_parts (place % alignment == 0) (agrees pattern (drop place image)) holds in
    let rest = asked pattern (drop place image) i w both.1 is in
    let short : i < length image - place = subst (λ n. i < n) (length-drop place image) rest.0 in
    (omega (arith, short), sym (get_or-drop place image i 0) ∙ rest.1)

-- where a pattern stands, the word of its anchor does
pub stands-anchored : (pattern : List (Option ℕ)) (alignment : ℕ) (image : List ℕ) (place at word : ℕ)
    → IsAnchor pattern at word → stands pattern alignment image place ≡ true
    → (place + at < length image - 1) × (word_at image (place + at) ≡ word)
stands-anchored pattern alignment image place at word a holds =
    let low = stands-asked pattern alignment image place at a.low holds a.low_is in
    let high = stands-asked pattern alignment image place (at + 1) a.high holds a.high_is in
    let joined : place + (at + 1) ≡ place + at + 1 = omega arith in
    let upper : get_or image (place + at + 1) 0 ≡ a.high = ap (λ n. get_or image n 0) (sym joined) ∙ high.1 in
    (omega (arith, high.0), ap₂ (λ x y. x + 256 * y) low.1 upper ∙ sym a.word_is)
