-- Lists that are written in parts.
use Rattle.std.proofs.Common.{◌≡◌, ℕ, zero, suc, ◌+◌, ◌-◌, ◌*◌, ◌<◌, ◌≤◌, List, [], ◌∷◌, ◌++◌, length, get_or, take}
use Rattle.std.proofs.Common.{drop, set}
use Rattle.std.proofs.Common.{replicate, refl, sym, ap, ◌∙◌, append_assoc, arith, length-append}
use Rattle.std.proofs.lemmas.List.{append-nil, drop_at, drop_more, length-drop, length-replicate, length-take-le}
use Rattle.std.proofs.lemmas.List.{set_at, take-append-drop, take_all, take_at}
use Rattle.std.proofs.Common.{Bool, true, ◌&&◌, ltb, leb}
use Rattle.std.proofs.lemmas.Bool.{and_parts, leb-true, ltb-true}
use Rattle.std.specs.List.{list_all, repeat}
use borrow.Rule.Slice.PartMut.{put_mid}
use Rattle.omf_librarian.specs.Entering.{empty_block, overwritten, primes}

-- a part of a list is replaced
pub mid-replaced : {A : Type 0} (front old rest new : List A) (at count : ℕ) → length front ≡ at → length old ≡ count
    → put_mid at count (front ++ (old ++ rest)) new ≡ front ++ (new ++ rest)
mid-replaced front old rest new at count starts size =
    ap (λ l. l ++ (new ++ drop count (drop at (front ++ (old ++ rest))))) (take_at front (old ++ rest) at starts)
    ∙ ap (λ l. front ++ (new ++ drop count l)) (drop_at front (old ++ rest) at starts)
    ∙ ap (λ l. front ++ (new ++ l)) (drop_at old rest count size)

-- a list in parts: before a place, there, so many behind it, and what is left
pub parts_of : {A : Type 0} (d : A) (list : List A) (at count : ℕ) → at < length list
    → list ≡ take at list ++ (get_or list at d ∷ (take count (drop (at + 1) list) ++ drop count (drop (at + 1) list)))
parts_of d list at count within =
    sym (take-append-drop at list)
    ∙ ap (λ l. take at list ++ l) (drop_more list at d within)
    ∙ ap (λ l. take at list ++ (get_or list at d ∷ l)) (sym (take-append-drop count (drop (at + 1) list)))

-- a byte, so many bytes, and two bytes are written, each behind the other
pub written : (block name word : List ℕ) (at n behind count two : ℕ) → length name ≡ n → length word ≡ 2 → count ≡ n
    → two ≡ 2 → behind ≡ at + 1 + n → at + 1 + n + 2 ≤ length block
    → put_mid behind two (put_mid (at + 1) count (set block at n) name) word
    ≡ overwritten at (n ∷ (name ++ word)) block
written block name word at n behind count two named worded counted twice place within =
    let A = take at block in
    let c = get_or block at 0 in
    let X = take n (drop (at + 1) block) in
    let R = drop n (drop (at + 1) block) in
    let Y = take 2 R in
    let Z = drop 2 R in
    let a : length A ≡ at = length-take-le at block (omega arith) in
    let x : length X ≡ n = length-take-le n (drop (at + 1) block) (omega (arith, length-drop (at + 1) block)) in
    let r : length R ≡ length block - (at + 1) - n =
    length-drop n (drop (at + 1) block) ∙ ap (λ k. k - n) (length-drop (at + 1) block) in
    let y : length Y ≡ 2 = length-take-le 2 R (omega (arith, r)) in
    let whole : block ≡ A ++ (c ∷ (X ++ (Y ++ Z))) =
    parts_of 0 block at n (omega arith) ∙ ap (λ l. A ++ (c ∷ (X ++ l))) (sym (take-append-drop 2 R)) in
    let one : set block at n ≡ (A ++ n ∷ []) ++ (X ++ (Y ++ Z)) =
    ap (λ l. set l at n) whole ∙ set_at A c (X ++ (Y ++ Z)) n at a
    ∙ sym (append_assoc A (n ∷ []) (X ++ (Y ++ Z))) in
    let next : length (A ++ n ∷ []) ≡ at + 1 = length-append A (n ∷ []) ∙ ap (λ k. k + 1) a in
    let two' : put_mid (at + 1) count (set block at n) name ≡ ((A ++ n ∷ []) ++ name) ++ (Y ++ Z) =
    ap (λ l. put_mid (at + 1) count l name) one
    ∙ mid-replaced (A ++ n ∷ []) X (Y ++ Z) name (at + 1) count next (x ∙ sym counted)
    ∙ sym (append_assoc (A ++ n ∷ []) name (Y ++ Z)) in
    let far : length ((A ++ n ∷ []) ++ name) ≡ behind =
    omega (arith, length-append (A ++ n ∷ []) name, next, named, place) in
    let three : put_mid behind two (put_mid (at + 1) count (set block at n) name) word
    ≡ ((A ++ n ∷ []) ++ name) ++ (word ++ Z) =
    ap (λ l. put_mid behind two l word) two'
    ∙ mid-replaced ((A ++ n ∷ []) ++ name) Y Z word behind two far (y ∙ sym twice) in
    let size : length (n ∷ (name ++ word)) ≡ length (c ∷ (X ++ Y)) =
    omega (arith, length-append name word, length-append X Y, named, worded, x, y) in
    let rest : drop (length (n ∷ (name ++ word))) (drop at block) ≡ Z =
    ap (λ l. drop (length (n ∷ (name ++ word))) (drop at l)) whole
    ∙ ap (λ l. drop (length (n ∷ (name ++ word))) l) (drop_at A (c ∷ (X ++ (Y ++ Z))) at a)
    ∙ ap (λ l. drop (length (n ∷ (name ++ word))) (c ∷ l)) (sym (append_assoc X Y Z))
    ∙ drop_at (c ∷ (X ++ Y)) Z (length (n ∷ (name ++ word))) (sym size) in
    three
    ∙ ap (λ l. l ++ (word ++ Z)) (append_assoc A (n ∷ []) name)
    ∙ append_assoc A (n ∷ name) (word ++ Z)
    ∙ ap (λ l. A ++ l) (sym (append_assoc (n ∷ name) word Z))
    ∙ ap (λ l. A ++ ((n ∷ (name ++ word)) ++ l)) (sym rest)

pub repeat_more : {A : Type 0} (n : ℕ) (xs : List A) → repeat n xs ++ xs ≡ repeat (n + 1) xs
repeat_more zero xs = sym (append-nil xs)
repeat_more (suc n) xs =
    append_assoc xs (repeat n xs) xs ∙ ap (λ l. xs ++ l) (repeat_more n xs)
    ∙ ap (λ k. repeat k xs) (let e : suc (n + 1) ≡ suc n + 1 = omega arith in e)

pub mid_size : {A : Type 0} (list new : List A) (at count : ℕ) → at + count ≤ length list → length new ≡ count
    → length (put_mid at count list new) ≡ length list
mid_size list new at count within size =
    omega (
      arith,
      length-append (take at list) (new ++ drop count (drop at list)),
      length-append new (drop count (drop at list)),
      length-take-le at list (omega arith),
      length-drop count (drop at list),
      length-drop at list,
    )

-- what passes a test for all elements passes it at each place
pub all_at : (test : ℕ → Bool) (xs : List ℕ) → list_all test xs ≡ true → (i : ℕ) → i < length xs
    → test (get_or xs i 0) ≡ true
all_at test [] all i within = absurd (omega arith)
all_at test (x ∷ xs) all zero within = (and_parts (test x) (list_all test xs) all).0
all_at test (x ∷ xs) all (suc i) within =
    all_at test xs (and_parts (test x) (list_all test xs) all).1 i (omega arith)

pub prime_bounds : (i : ℕ) → i < 54 → (0 < get_or primes i 0) × (get_or primes i 0 ≤ 251)
unfolding primes
prime_bounds i within =
    let e = and_parts (ltb 0 (get_or primes i 0)) (leb (get_or primes i 0) 251)
    (all_at (λ p. ltb 0 p && leb p 251) primes refl i within) in
    (ltb-true 0 (get_or primes i 0) e.0, leb-true (get_or primes i 0) 251 e.1)

pub block_size : length empty_block ≡ 512
unfolding empty_block
block_size = refl

-- an empty block is appended in three steps
pub block_appended : (list one two three : List ℕ) (len m n : ℕ) → len ≡ length list → m ≡ 37 → n ≡ 474
    → one ≡ take (len + 37) list ++ replicate m 0 → two ≡ one ++ 19 ∷ []
    → three ≡ take (len + 512) two ++ replicate n 0 → three ≡ list ++ empty_block
unfolding empty_block
block_appended list one two three len m n size k₁ k₂ e₁ e₂ e₃ =
    let one' : one ≡ list ++ replicate 37 0 =
    e₁ ∙ ap (λ l. l ++ replicate m 0) (take_all (len + 37) list (omega (arith, size)))
    ∙ ap (λ k. list ++ replicate k 0) k₁ in
    let l₁ : length one ≡ len + 37 =
    ap length one' ∙ length-append list (replicate 37 0) ∙ omega (arith, size, length-replicate {A = ℕ} 37 0) in
    let l₂ : length two ≡ len + 38 = ap length e₂ ∙ length-append one (19 ∷ []) ∙ omega (arith, l₁) in
    e₃ ∙ ap (λ l. l ++ replicate n 0) (take_all (len + 512) two (omega (arith, l₂)))
    ∙ ap (λ k. two ++ replicate k 0) k₂
    ∙ ap (λ l. l ++ replicate 474 0) (e₂ ∙ ap (λ l. l ++ 19 ∷ []) one')
    ∙ append_assoc (list ++ replicate 37 0) (19 ∷ []) (replicate 474 0)
    ∙ append_assoc list (replicate 37 0) (19 ∷ replicate 474 0)

pub repeat_size : (n : ℕ) → length (repeat n empty_block) ≡ 512 * n
repeat_size zero = refl
repeat_size (suc n) =
    length-append empty_block (repeat n empty_block) ∙ omega (arith, block_size, repeat_size n)
