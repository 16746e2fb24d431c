-- A stable sort by segments keeps the lines of each segment as they came.
use Rattle.std.proofs.Common.{◌≡◌, ℕ, Bool, true, false, cond, not, ◌&&◌, List, filter, eqb, ltb, refl, sym, ap₂, ◌∙◌}
use Rattle.std.proofs.Common.{arith}
use Rattle.std.proofs.Common.{nat_cmp, is_lt, Less, Equal, Greater, ltb-true, ltb-false, eq-eqb, ne_eqb}
use Rattle.std.specs.List.Sorted.{IsStableByKey, ties}
use Rattle.std.proofs.lemmas.List.Elements.{filter_agree}
use Rattle.omf_lines.specs.Lines.{is_of}
use Rattle.omf_lines.specs.declared.line.Line.{Line}

less-is : (a b : Bool) → is_lt (cond a Less (cond b Equal Greater)) ≡ a
less-is true b = refl
less-is false true = refl
less-is false false = refl

nat_cmp-ltb : (x y : ℕ) → is_lt (nat_cmp x y) ≡ ltb x y
nat_cmp-ltb x y = less-is (ltb x y) (eqb x y)

-- numbers neither of which is less are the same
neither-less : (s n : ℕ) → (not (ltb s n) && not (ltb n s)) ≡ eqb n s
neither-less s n = go (ltb s n) (ltb n s) refl refl
  where
    go : (a b : Bool) → ltb s n ≡ a → ltb n s ≡ b → (not a && not b) ≡ eqb n s
    go true b e f = let less = ltb-true s n e in sym (ne_eqb n s (λ same. omega (arith, less, same)))
    go false true e f = let less = ltb-true n s f in sym (ne_eqb n s (λ same. omega (arith, less, same)))
    go false false e f =
        let above = ltb-false s n e in
        let below = ltb-false n s f in sym (eq-eqb n s (omega (arith, above, below)))

abbrev some_of : (segment : ℕ) → Line
some_of segment = record { number = 0; group = 0; segment = segment; offset = 0 }

ties-of : (segment : ℕ) (line : Line)
    → ties (λ (x y : Line). is_lt (nat_cmp x.segment y.segment)) (some_of segment) line ≡ is_of segment line
ties-of segment line =
    ap₂ (λ a b. not a && not b) (nat_cmp-ltb segment line.segment) (nat_cmp-ltb line.segment segment)
    ∙ neither-less segment line.segment

pub kept : (lines sorted : List Line) → IsStableByKey (λ (l : Line). l.segment) nat_cmp lines sorted
    → (segment : ℕ) → filter (is_of segment) sorted ≡ filter (is_of segment) lines
kept lines sorted stable segment =
    let test = ties (λ (x y : Line). is_lt (nat_cmp x.segment y.segment)) (some_of segment) in
    sym (filter_agree test (is_of segment) (ties-of segment) sorted) ∙ stable (some_of segment)
    ∙ filter_agree test (is_of segment) (ties-of segment) lines
