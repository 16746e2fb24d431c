-- The bytes that spans have, flagged one span after the other.
use Rattle.std.proofs.Common.{◌≡◌, ℕ, min, Bool, true, false, ◌&&◌, ◌||◌, leb, ltb, refl, sym, arith}
use Rattle.std.proofs.Common.{le-leb, lt-ltb, leb-true, ltb-true}
use Rattle.std.proofs.lemmas.Bool.{and_parts, and_from}

-- tests that hold at the same time
same-tests : (a b : Bool) → (a ≡ true → b ≡ true) → (b ≡ true → a ≡ true) → a ≡ b
same-tests true b f g = sym (f refl)
same-tests false true f g = g refl
same-tests false false f g = refl

-- a span, cut off where the image ends
pub cut-span : (k start end len : ℕ)
    → (leb (min start (min end len)) k && ltb k (min end len)) ≡ (ltb k len && (leb start k && ltb k end))
cut-span k start end len =
    same-tests _ _
    (λ h. let both = and_parts (leb (min start (min end len)) k) (ltb k (min end len)) h in
    let low = leb-true (min start (min end len)) k both.0 in
    let high = ltb-true k (min end len) both.1 in
    and_from (ltb k len) (leb start k && ltb k end) (lt-ltb k len (omega (arith, high)))
    (and_from (leb start k) (ltb k end) (le-leb start k (omega (arith, low, high)))
    (lt-ltb k end (omega (arith, high)))))
    (λ h. let outer = and_parts (ltb k len) (leb start k && ltb k end) h in
    let inner = and_parts (leb start k) (ltb k end) outer.1 in
    let short = ltb-true k len outer.0 in
    let low = leb-true start k inner.0 in
    let high = ltb-true k end inner.1 in
    and_from (leb (min start (min end len)) k) (ltb k (min end len))
    (le-leb (min start (min end len)) k (omega (arith, low))) (lt-ltb k (min end len) (omega (arith, short, high))))

-- nothing more
pub or-nothing : (a : Bool) → (a || false) ≡ a
or-nothing true = refl
or-nothing false = refl
