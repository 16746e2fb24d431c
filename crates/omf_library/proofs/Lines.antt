-- Lines of a table, from its end on.
use Rattle.std.proofs.Common.{◌≡◌, ℕ, zero, suc, ◌+◌, ◌-◌, ◌<◌, ◌≤◌, Bool, true, false, cond, List, [], ◌∷◌, ◌++◌, length}
use Rattle.std.proofs.Common.{drop, get_or, refl, sym, ap, ◌∙◌, add-one, arith, length-append, not}
use Rattle.std.proofs.Math.Seq.{drop-cons}
use Rattle.std.specs.List.{position_or_len}
use Rattle.omf_library.specs.inside.Lines.{ends_line, line_lengths}

-- the line at a place is no longer than what is left
pub line-le : (bs : List ℕ) → position_or_len ends_line bs ≤ length bs
line-le [] = omega arith
line-le (b ∷ bs) =
    let rest = line-le bs in
    (elim (ends_line b) as (λ t. cond (not t) (1 + position_or_len ends_line bs) 0 ≤ length (b ∷ bs)) [
      | true ↦ omega arith
      | false ↦ omega (arith, rest)
    ])

pub lengths-length : (bs : List ℕ) → length (line_lengths bs) ≡ length bs
unfolding line_lengths
lengths-length [] = refl
lengths-length (b ∷ bs) =
    let rest = lengths-length bs in
    let both = length-append (line_lengths bs) (position_or_len ends_line (b ∷ bs) ∷ []) in
    omega (arith, rest, both)

before-last : (xs : List ℕ) (x : ℕ) (i d : ℕ) → i < length xs → get_or (xs ++ x ∷ []) i d ≡ get_or xs i d
before-last [] x i d h = absurd (omega arith)
before-last (y ∷ ys) x zero d h = refl
before-last (y ∷ ys) x (suc i) d h = before-last ys x i d (let g : i < length ys = omega arith in g)

the-last : (xs : List ℕ) (x : ℕ) (i d : ℕ) → i ≡ length xs → get_or (xs ++ x ∷ []) i d ≡ x
the-last [] x i d e = ap (λ k. get_or (x ∷ []) k d) e
the-last (y ∷ ys) x i d e = ap (λ k. get_or ((y ∷ ys) ++ x ∷ []) k d) e ∙ the-last ys x (length ys) d refl

-- the length of the line at a place
pub line-at : (bs : List ℕ) (place i d : ℕ) → place < length bs → i ≡ length bs - 1 - place
    → get_or (line_lengths bs) i d ≡ position_or_len ends_line (drop place bs)
unfolding line_lengths
line-at [] place i d h e = absurd (omega arith)
line-at (b ∷ bs) zero i d h e =
    let len = lengths-length bs in
    the-last (line_lengths bs) (position_or_len ends_line (b ∷ bs)) i d (omega (arith, len, e))
line-at (b ∷ bs) (suc place) i d h e =
    let len = lengths-length bs in
    before-last (line_lengths bs) (position_or_len ends_line (b ∷ bs)) i d (omega (arith, len, e, h))
    ∙ line-at bs place i d (let g : place < length bs = omega (arith, h) in g) (omega (arith, e, h))

-- what stands at a place, and behind it
pub at-place : (table : List ℕ) (place : ℕ) (d : ℕ) → place < length table
    → drop place table ≡ get_or table place d ∷ drop (place + 1) table
at-place table place d h =
    drop-cons table place d h ∙ ap (λ k. get_or table place d ∷ drop k table) (sym (add-one place))

-- one place more, from the end on
pub one-back : (table : List ℕ) (place : ℕ) (d : ℕ) (lengths : List ℕ) (len : ℕ) → place < length table
    → lengths ≡ line_lengths (drop (place + 1) table)
    → len ≡ position_or_len ends_line (get_or table place d ∷ drop (place + 1) table)
    → lengths ++ len ∷ [] ≡ line_lengths (drop place table)
unfolding line_lengths
one-back table place d lengths len h e f =
    ap (λ l. l ++ len ∷ []) e
    ∙ ap (λ n. line_lengths (drop (place + 1) table) ++ n ∷ []) f
    ∙ ap line_lengths (sym (at-place table place d h))

pub step-length : (t : Bool) (n : ℕ) → cond t 0 (n + 1) ≡ cond (not t) (1 + n) 0
step-length true n = refl
step-length false n = (let e : n + 1 ≡ 1 + n = omega arith in e)
