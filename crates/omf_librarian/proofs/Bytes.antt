-- Bytes of a block that is written: which change, and which stay.
use Rattle.std.proofs.Common.{◌≡◌, ◌≢◌, ℕ, zero, suc, ◌+◌, ◌-◌, ◌*◌, ◌/◌, ◌%◌, ◌<◌, ◌≤◌, List, [], ◌∷◌, ◌++◌, length}
use Rattle.std.proofs.Common.{get_or, take, drop, set, min, refl, sym, ap, ◌∙◌, arith, length-append}
use Rattle.std.proofs.lemmas.List.{ext_get_or, get_or-append-add, get_or-append_right, get_or-drop, get_or-set_other}
use Rattle.std.proofs.lemmas.List.{get_or-set_same, get_or-take, get_or_append_left, length-drop, length-set}
use Rattle.std.proofs.lemmas.List.{length-take, length-take-le}
use Rattle.std.specs.Int.{to_le_bytes, w16}
use Rattle.omf_librarian.specs.Dictionary.{Entry, entry_at}
use Rattle.omf_librarian.specs.Entering.{entry_bytes, entry_words, overwritten, with_entry}

-- the same bytes from one place to another
pub range_same : (a b : List ℕ) (i j : ℕ) → length a ≡ length b → j ≤ length b
    → ((k : ℕ) → i ≤ k → k < j → get_or a k 0 ≡ get_or b k 0)
    → take (j - i) (drop i a) ≡ take (j - i) (drop i b)
range_same a b i j size within same =
    ext_get_or 0 (take (j - i) (drop i a)) (take (j - i) (drop i b))
    (length-take (j - i) (drop i a) ∙ ap (min (j - i)) (length-drop i a ∙ ap (λ n. n - i) size ∙ sym (length-drop i b))
    ∙ sym (length-take (j - i) (drop i b)))
    (λ k below.
    let fits : k < j - i =
    omega (arith, below, length-take (j - i) (drop i a)) in
    get_or-take (j - i) (drop i a) k 0 fits ∙ get_or-drop i a k 0
    ∙ same (i + k) (omega arith) (omega (arith, fits))
    ∙ sym (get_or-take (j - i) (drop i b) k 0 fits ∙ get_or-drop i b k 0))

-- an entry all of whose bytes stay
pub entry_same : (a b : List ℕ) (place : ℕ) → length a ≡ length b → place + 3 + get_or b place 0 ≤ length b
    → ((k : ℕ) → place ≤ k → k < place + 3 + get_or b place 0 → get_or a k 0 ≡ get_or b k 0)
    → entry_at a place ≡ entry_at b place
entry_same a b place size within same =
    let n = get_or b place 0 in
    let behind = place + 1 + n in
    let len : get_or a place 0 ≡ n = same place (omega arith) (omega arith) in
    let name : take (behind - (place + 1)) (drop (place + 1) a) ≡ take (behind - (place + 1)) (drop (place + 1) b) =
    range_same a b (place + 1) behind size (omega (arith, within)) (λ k low high. same k (omega arith) (omega arith)) in
    let low : get_or a behind 0 ≡ get_or b behind 0 = same behind (omega arith) (omega arith) in
    let high : get_or a (behind + 1) 0 ≡ get_or b (behind + 1) 0 = same (behind + 1) (omega arith) (omega arith) in
    ap (λ (m : ℕ). let e : Entry = record {
      name = take (place + 1 + m - (place + 1)) (drop (place + 1) a);
      page = get_or a (place + 1 + m) 0 + 256 * get_or a (place + 1 + m + 1) 0;
    } in e) len
    ∙ ap (λ (l : List ℕ). let e : Entry = record {
      name = l;
      page = get_or a behind 0 + 256 * get_or a (behind + 1) 0;
    } in e) name
    ∙ ap (λ (k : ℕ). let e : Entry = record {
      name = take (behind - (place + 1)) (drop (place + 1) b);
      page = k;
    } in e) (ap (λ k. k + 256 * get_or a (behind + 1) 0) low ∙ ap (λ k. get_or b behind 0 + 256 * k) high)

-- ---- bytes that are overwritten

overwritten_below : (at : ℕ) (bytes block : List ℕ) (i : ℕ) → i < at → at ≤ length block
    → get_or (overwritten at bytes block) i 0 ≡ get_or block i 0
overwritten_below at bytes block i below within =
    get_or_append_left (take at block) (bytes ++ drop (length bytes) (drop at block)) 0 i
    (omega (arith, length-take-le at block within))
    ∙ get_or-take at block i 0 below

overwritten_there : (at : ℕ) (bytes block : List ℕ) (k : ℕ) → k < length bytes → at ≤ length block
    → get_or (overwritten at bytes block) (at + k) 0 ≡ get_or bytes k 0
overwritten_there at bytes block k there within =
    let len : length (take at block) ≡ at = length-take-le at block within in
    ap (λ n. get_or (overwritten at bytes block) (n + k) 0) (sym len)
    ∙ get_or-append-add (take at block) (bytes ++ drop (length bytes) (drop at block)) k 0
    ∙ get_or_append_left bytes (drop (length bytes) (drop at block)) 0 k there

overwritten_size : (at : ℕ) (bytes block : List ℕ) → at + length bytes ≤ length block
    → length (overwritten at bytes block) ≡ length block
overwritten_size at bytes block within =
    omega (
      arith,
      length-append (take at block) (bytes ++ drop (length bytes) (drop at block)),
      length-append bytes (drop (length bytes) (drop at block)),
      length-take-le at block (omega arith),
      length-drop (length bytes) (drop at block),
      length-drop at block,
    )

-- ---- a block with an entry more

pub bytes_size : (e : Entry) → length (entry_bytes e) ≡ length e.name + 3
bytes_size e = omega (arith, length-append e.name (to_le_bytes w16 e.page))

-- its bytes: the entry has room behind the first bytes of the block
pub record Put (block : List ℕ) (bucket : ℕ) (e : Entry) : Type 0 where
  pub size : length (with_entry block bucket e) ≡ length block
  pub free : get_or (with_entry block bucket e) 37 0 ≡ min (get_or block 37 0 + entry_words e) 255
  pub here : get_or (with_entry block bucket e) bucket 0 ≡ get_or block 37 0
  pub below : (i : ℕ) → i ≢ 37 → i ≢ bucket → i < 2 * get_or block 37 0
      → get_or (with_entry block bucket e) i 0 ≡ get_or block i 0
  pub there : (k : ℕ) → k < length e.name + 3
      → get_or (with_entry block bucket e) (2 * get_or block 37 0 + k) 0 ≡ get_or (entry_bytes e) k 0

pub put_is : (block : List ℕ) (bucket : ℕ) (e : Entry) → bucket < 37 → 19 ≤ get_or block 37 0
    → 2 * get_or block 37 0 + length e.name + 3 ≤ length block → Put block bucket e
put_is block bucket e first least within =
    let f = get_or block 37 0 in
    let m = min (f + entry_words e) 255 in
    let w = overwritten (2 * f) (entry_bytes e) block in
    let size : length w ≡ length block =
    overwritten_size (2 * f) (entry_bytes e) block (omega (arith, within, bytes_size e)) in
    let size' : length (set w bucket f) ≡ length block = length-set w bucket f ∙ size in
    let other : (i : ℕ) → i ≢ 37 → i ≢ bucket → get_or (set (set w bucket f) 37 m) i 0 ≡ get_or w i 0 =
    λ i far off. get_or-set_other (set w bucket f) 37 i m 0 far ∙ get_or-set_other w bucket i f 0 off in
    record {
      size = length-set (set w bucket f) 37 m ∙ size';
      free = get_or-set_same (set w bucket f) 37 m 0 (omega (arith, size', within));
      here =
          get_or-set_other (set w bucket f) 37 bucket m 0 (λ e. omega arith)
          ∙ get_or-set_same w bucket f 0 (omega (arith, size, within));
      below =
          λ i far off low.
          other i far off ∙ overwritten_below (2 * f) (entry_bytes e) block i low (omega (arith, within));
      there = λ k small.
          other (2 * f + k) (λ q. omega arith) (λ q. omega arith)
          ∙ overwritten_there (2 * f) (entry_bytes e) block k (omega (arith, bytes_size e)) (omega (arith, within));
    }

-- the entry that was put there
pub entry_put : (block : List ℕ) (bucket : ℕ) (e : Entry) → Put block bucket e → e.page < 65536
    → 2 * get_or block 37 0 + length e.name + 3 ≤ length block
    → entry_at (with_entry block bucket e) (2 * get_or block 37 0) ≡ e
entry_put block bucket e p page within =
    let at = 2 * get_or block 37 0 in
    let n = length e.name in
    let new = with_entry block bucket e in
    let word = to_le_bytes w16 e.page in
    let len : get_or new at 0 ≡ n =
    ap (λ k. get_or new k 0) (let q : at ≡ at + 0 = omega arith in q) ∙ p.there 0 (omega arith) in
    let cut : length (take (at + 1 + n - (at + 1)) (drop (at + 1) new)) ≡ n =
    length-take-le (at + 1 + n - (at + 1)) (drop (at + 1) new) (omega (arith, length-drop (at + 1) new, p.size, within))
    ∙ omega arith in
    let name : take (at + 1 + n - (at + 1)) (drop (at + 1) new) ≡ e.name =
    ext_get_or 0 (take (at + 1 + n - (at + 1)) (drop (at + 1) new)) e.name cut
    (λ k below.
    let small : k < n = omega (arith, below, cut) in
    get_or-take (at + 1 + n - (at + 1)) (drop (at + 1) new) k 0 (omega (arith, small))
    ∙ get_or-drop (at + 1) new k 0
    ∙ ap (λ i. get_or new i 0) (let q : at + 1 + k ≡ at + suc k = omega arith in q)
    ∙ p.there (suc k) (omega (arith, small))
    ∙ get_or_append_left e.name word 0 k small) in
    let low : get_or new (at + 1 + n) 0 ≡ e.page % 256 =
    ap (λ i. get_or new i 0) (let q : at + 1 + n ≡ at + suc (n + 0) = omega arith in q)
    ∙ p.there (suc (n + 0)) (omega arith) ∙ get_or-append-add e.name word 0 0 in
    let high : get_or new (at + 1 + n + 1) 0 ≡ e.page / 256 % 256 =
    ap (λ i. get_or new i 0) (let q : at + 1 + n + 1 ≡ at + suc (n + 1) = omega arith in q)
    ∙ p.there (suc (n + 1)) (omega arith) ∙ get_or-append-add e.name word 1 0 in
    let page-is : get_or new (at + 1 + n) 0 + 256 * get_or new (at + 1 + n + 1) 0 ≡ e.page =
    omega (arith, low, high, page) in
    ap (λ (m : ℕ). let x : Entry = record {
      name = take (at + 1 + m - (at + 1)) (drop (at + 1) new);
      page = get_or new (at + 1 + m) 0 + 256 * get_or new (at + 1 + m + 1) 0;
    } in x) len
    ∙ ap (λ (l : List ℕ). let x : Entry = record {
      name = l;
      page = get_or new (at + 1 + n) 0 + 256 * get_or new (at + 1 + n + 1) 0;
    } in x) name
    ∙ ap (λ (k : ℕ). let x : Entry = record { name = e.name; page = k } in x) page-is
