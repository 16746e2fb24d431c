-- Additions to words: two at one place are one, and two at places that share no byte commute.
use Rattle.std.proofs.Common.{◌≡◌, ◌≢◌, ◌⊎◌, ℕ, ◌+◌, ◌/◌, ◌%◌, ◌<◌, List, length, get_or, set, inl, inr, arith, ap, ◌∙◌}
use Rattle.std.proofs.Common.{sym}
use Rattle.std.proofs.lemmas.List.{length-set, get_or-set_same, get_or-set_other, set-set, set_comm}
use Rattle.omf_image.specs.Words.{word_at, put_word, add_byte, add_word}

pub length-put_word : (xs : List ℕ) (i w : ℕ) → length (put_word xs i w) ≡ length xs
unfolding put_word
length-put_word xs i w = simp length-set

pub length-add_word : (v i : ℕ) (xs : List ℕ) → length (add_word v i xs) ≡ length xs
unfolding add_word
length-add_word v i xs = length-put_word xs i ((word_at xs i + v) % 65536)

pub word_at-put_word : (xs : List ℕ) (i w : ℕ) → i + 1 < length xs → word_at (put_word xs i w) i ≡ w
unfolding put_word
word_at-put_word xs i w h =
    let low = set xs i (w % 256) in
    let n : length low ≡ length xs = length-set xs i (w % 256) in
    let a : get_or (set low (i + 1) (w / 256)) i 0 ≡ w % 256 =
    get_or-set_other low (i + 1) i (w / 256) 0 (omega arith) ∙ get_or-set_same xs i (w % 256) 0 (omega arith) in
    let b : get_or (set low (i + 1) (w / 256)) (i + 1) 0 ≡ w / 256 =
    get_or-set_same low (i + 1) (w / 256) 0 (omega arith) in
    omega (arith, a, b)

pub put_word-put_word : (xs : List ℕ) (i w w' : ℕ) → put_word (put_word xs i w) i w' ≡ put_word xs i w'
unfolding put_word
put_word-put_word xs i w w' =
    let ne : i + 1 ≢ i = omega arith in
    ap (λ (l : List ℕ). set l (i + 1) (w' / 256)) (set_comm (set xs i (w % 256)) (i + 1) i (w / 256) (w' % 256) ne)
    ∙ set-set (set (set xs i (w % 256)) i (w' % 256)) (i + 1) (w / 256) (w' / 256)
    ∙ ap (λ (l : List ℕ). set l (i + 1) (w' / 256)) (set-set xs i (w % 256) (w' % 256))

mod_join : (x v p : ℕ) → ((x + v) % 65536 + p) % 65536 ≡ (x + (v + p) % 65536) % 65536
mod_join x v p = omega arith

pub add_word-add_word : (v p i : ℕ) (xs : List ℕ) → i + 1 < length xs
    → add_word p i (add_word v i xs) ≡ add_word ((v + p) % 65536) i xs
unfolding add_word
add_word-add_word v p i xs h =
    let w = (word_at xs i + v) % 65536 in
    ap (λ (x : ℕ). put_word (put_word xs i w) i ((x + p) % 65536)) (word_at-put_word xs i w h)
    ∙ put_word-put_word xs i w ((w + p) % 65536)
    ∙ ap (put_word xs i) (mod_join (word_at xs i) v p)

-- a write to a byte that is not of the word
pub word_at-set_other : (xs : List ℕ) (i j y : ℕ) → (j < i) ⊎ (i + 1 < j) → word_at (set xs j y) i ≡ word_at xs i
word_at-set_other xs i j y h =
    let a : get_or (set xs j y) i 0 ≡ get_or xs i 0 = get_or-set_other xs j i y 0 (omega arith) in
    let b : get_or (set xs j y) (i + 1) 0 ≡ get_or xs (i + 1) 0 = get_or-set_other xs j (i + 1) y 0 (omega arith) in
    omega (arith, a, b)

put_word-set : (xs : List ℕ) (i w j y : ℕ) → (j < i) ⊎ (i + 1 < j)
    → put_word (set xs j y) i w ≡ set (put_word xs i w) j y
unfolding put_word
put_word-set xs i w j y h =
    ap (λ (l : List ℕ). set l (i + 1) (w / 256)) (set_comm xs j i y (w % 256) (omega arith))
    ∙ set_comm (set xs i (w % 256)) j (i + 1) y (w / 256) (omega arith)

pub get_or-put_word_other : (xs : List ℕ) (i w j : ℕ) → (j < i) ⊎ (i + 1 < j)
    → get_or (put_word xs i w) j 0 ≡ get_or xs j 0
unfolding put_word
get_or-put_word_other xs i w j h =
    get_or-set_other (set xs i (w % 256)) (i + 1) j (w / 256) 0 (omega arith)
    ∙ get_or-set_other xs i j (w % 256) 0 (omega arith)

pub add_byte-add_word : (v j p i : ℕ) (xs : List ℕ) → (j < i) ⊎ (i + 1 < j)
    → add_byte v j (add_word p i xs) ≡ add_word p i (add_byte v j xs)
unfolding add_byte add_word
add_byte-add_word v j p i xs h =
    let y = (get_or xs j 0 + v) % 256 in
    ap (λ (b : ℕ). set (put_word xs i ((word_at xs i + p) % 65536)) j ((b + v) % 256))
    (get_or-put_word_other xs i ((word_at xs i + p) % 65536) j h)
    ∙ sym (put_word-set xs i ((word_at xs i + p) % 65536) j y h)
    ∙ ap (λ (x : ℕ). put_word (set xs j y) i ((x + p) % 65536)) (sym (word_at-set_other xs i j y h))

-- a write to a word that shares no byte
pub word_at-put_word_other : (xs : List ℕ) (i j y : ℕ) → (j + 1 < i) ⊎ (i + 1 < j)
    → word_at (put_word xs j y) i ≡ word_at xs i
unfolding put_word
word_at-put_word_other xs i j y h =
    word_at-set_other (set xs j (y % 256)) i (j + 1) (y / 256)
    (elim h [ inl l ↦ inl (omega arith) | inr r ↦ inr (omega arith) ])
    ∙ word_at-set_other xs i j (y % 256) (elim h [ inl l ↦ inl (omega arith) | inr r ↦ inr (omega arith) ])

put_word-comm : (xs : List ℕ) (i w j y : ℕ) → (j + 1 < i) ⊎ (i + 1 < j)
    → put_word (put_word xs j y) i w ≡ put_word (put_word xs i w) j y
unfolding put_word
put_word-comm xs i w j y h =
    put_word-set (set xs j (y % 256)) i w (j + 1) (y / 256)
    (elim h [ inl l ↦ inl (omega arith) | inr r ↦ inr (omega arith) ])
    ∙ ap (λ (l : List ℕ). set l (j + 1) (y / 256))
    (put_word-set xs i w j (y % 256) (elim h [ inl l ↦ inl (omega arith) | inr r ↦ inr (omega arith) ]))

pub add_word-comm : (v j p i : ℕ) (xs : List ℕ) → (j + 1 < i) ⊎ (i + 1 < j)
    → add_word v j (add_word p i xs) ≡ add_word p i (add_word v j xs)
unfolding add_word
add_word-comm v j p i xs h =
    let wi = (word_at xs i + p) % 65536 in
    let wj = (word_at xs j + v) % 65536 in
    let h' : (i + 1 < j) ⊎ (j + 1 < i) = elim h [ inl l ↦ inr l | inr r ↦ inl r ] in
    ap (λ (x : ℕ). put_word (put_word xs i wi) j ((x + v) % 65536)) (word_at-put_word_other xs j i wi h')
    ∙ put_word-comm xs j wj i wi h'
    ∙ ap (λ (x : ℕ). put_word (put_word xs j wj) i ((x + p) % 65536)) (sym (word_at-put_word_other xs i j wj h))
