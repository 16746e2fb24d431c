-- Names and indexes at the front of bytes, by their spellings.
use Rattle.std.proofs.Common.{◌≡◌, ℕ, zero, suc, ◌+◌, ◌-◌, ◌*◌, ◌/◌, ◌%◌, ◌<◌, ◌≤◌, inl, inr, List, [], ◌∷◌, length}
use Rattle.std.proofs.Common.{get_or, take, drop, cond, Some, None, refl, sym, ap, ◌∙◌, arith}
use Rattle.std.proofs.lemmas.List.{length-take-le}
use Rattle.std.proofs.lemmas.Bool.{cases_lt, lt-ltb, le-ltb}
use Rattle.omf_frame.specs.Primitives.{IsBytes, Index, Name}
use Rattle.omf_library.specs.Fields.{bytes_front, name_front, low_front, index_front}
use Rattle.omf_library.specs.Entries.{behind_bytes, behind_length}

-- the parts of equal lists
head_same : (a b : ℕ) (xs ys : List ℕ) → a ∷ xs ≡ b ∷ ys → a ≡ b
head_same a b xs ys e = ap (λ (l : List ℕ). get_or l 0 0) e

tail_same : (a b : ℕ) (xs ys : List ℕ) → a ∷ xs ≡ b ∷ ys → xs ≡ ys
tail_same a b xs ys e = ap (λ (l : List ℕ). drop 1 l) e

-- a front of so many bytes
pub bytes_front-whole : (count : ℕ) (bytes : List ℕ) → count ≤ length bytes
    → bytes_front count bytes ≡ Some (take count bytes, drop count bytes)
bytes_front-whole count bytes within =
    ap (λ t. cond t None (Some (take count bytes, drop count bytes))) (le-ltb (length bytes) count within)

pub bytes_front-cut : (count : ℕ) (bytes : List ℕ) → length bytes < count → bytes_front count bytes ≡ None
bytes_front-cut count bytes cut =
    ap (λ t. cond t None (Some (take count bytes, drop count bytes))) (lt-ltb (length bytes) count cut)

-- ---- names

pub name-some : (bytes name : List ℕ) (n : ℕ) → Name name (take n bytes) → 0 < n
name-some bytes name zero spells = absurd (omega (arith, ap length (spells.2)))
name-some bytes name (suc n) spells = omega arith

name-parts : (count n : ℕ) (rest name : List ℕ) → n ≤ length rest → count ≡ length name → take n rest ≡ name
    → name_front (count ∷ rest) ≡ Some (name, drop n rest)
name-parts count n rest name within len same =
    let e : count ≡ n = len ∙ ap length (sym same) ∙ length-take-le n rest within in
    ap (λ k. bytes_front k rest) e ∙ bytes_front-whole n rest within ∙ ap (λ l. Some (l, drop n rest)) same

pub name_front-some : (bytes name : List ℕ) (n : ℕ) → n ≤ length bytes → Name name (take n bytes)
    → name_front bytes ≡ Some (name, drop n bytes)
name_front-some bytes name zero within spells = absurd (omega (arith, ap length (spells.2)))
name_front-some [] name (suc n) within spells = absurd (omega arith)
name_front-some (count ∷ rest) name (suc n) within spells =
    name-parts count n rest name (omega arith) (head_same _ _ _ _ spells.2) (tail_same _ _ _ _ spells.2)

IsBytes-take : (n : ℕ) (bytes : List ℕ) → ((i : ℕ) → get_or bytes i 0 < 256) → IsBytes (take n bytes)
IsBytes-take zero bytes fits = tt
IsBytes-take (suc n) [] fits = tt
IsBytes-take (suc n) (b ∷ bs) fits = (fits 0, IsBytes-take n bs (λ i. fits (suc i)))

pub name_front-none : (bytes : List ℕ) → ((i : ℕ) → get_or bytes i 0 < 256)
    → ((name : List ℕ) (n : ℕ) → Name name (take n bytes) → ⊥) → name_front bytes ≡ None
name_front-none [] fits none = refl
name_front-none (count ∷ rest) fits none =
    elim (cases_lt (length rest) count) [
      | inl lt ↦ bytes_front-cut count rest lt
      | inr le ↦
          let small : count < 256 = fits 0 in
          let len : length (take count rest) ≡ count = length-take-le count rest le in
          absurd (none (take count rest) (suc count) (
            omega (arith, len, small),
            IsBytes-take count rest (λ i. fits (suc i)),
            ap (λ k. k ∷ take count rest)
                (sym len),
          ))
    ]

-- ---- indexes

pub index-some : (bytes : List ℕ) (value n : ℕ) → Index value (take n bytes) → 0 < n
index-some bytes value zero (inl s) = absurd (omega (arith, ap length (s.1)))
index-some bytes value zero (inr s) = absurd (omega (arith, ap length (s.1)))
index-some bytes value (suc n) s = omega arith

none-taken : (n : ℕ) (rest : List ℕ) → n ≤ length rest → take n rest ≡ [] → n ≡ 0
none-taken n rest within e = sym (length-take-le n rest within) ∙ ap length e

short-parts : (value b n : ℕ) (rest : List ℕ) → n ≤ length rest → value ≤ 127 → b ∷ take n rest ≡ value ∷ []
    → index_front (b ∷ rest) ≡ Some (value, drop n rest)
short-parts value b n rest within small e =
    let same : b ≡ value = head_same _ _ _ _ e in
    let zero' : n ≡ 0 = none-taken n rest within (tail_same _ _ _ _ e) in
    ap (λ t. cond t (Some (b, rest)) (low_front b rest)) (lt-ltb b 128 (omega (arith, same, small)))
    ∙ ap (λ k. Some (k, rest)) same ∙ ap (λ k. Some (value, drop k rest)) (sym zero')

long-parts : (value b c n : ℕ) (rest : List ℕ) → n ≤ length rest
    → b ∷ c ∷ take n rest ≡ (128 + value / 256) ∷ value % 256 ∷ []
    → index_front (b ∷ c ∷ rest) ≡ Some (value, drop n rest)
long-parts value b c n rest within e =
    let high : b ≡ 128 + value / 256 = head_same _ _ _ _ e in
    let low : c ≡ value % 256 = head_same _ _ _ _ (tail_same _ _ _ _ e) in
    let zero' : n ≡ 0 = none-taken n rest within (tail_same _ _ _ _ (tail_same _ _ _ _ e)) in
    let sum : 256 * (b - 128) + c ≡ value = omega (arith, high, low) in
    ap (λ t. cond t (Some (b, c ∷ rest)) (low_front b (c ∷ rest))) (le-ltb b 128 (omega (arith, high)))
    ∙ ap (λ k. Some (k, rest)) sum ∙ ap (λ k. Some (value, drop k rest)) (sym zero')

pub index_front-some : (bytes : List ℕ) (value n : ℕ) → n ≤ length bytes → Index value (take n bytes)
    → index_front bytes ≡ Some (value, drop n bytes)
index_front-some bytes value zero within (inl s) = absurd (omega (arith, ap length (s.1)))
index_front-some bytes value zero within (inr s) = absurd (omega (arith, ap length (s.1)))
index_front-some [] value (suc n) within s = absurd (omega arith)
index_front-some (b ∷ rest) value (suc n) within (inl s) = short-parts value b n rest (omega arith) s.0 s.1
index_front-some (b ∷ rest) value (suc zero) within (inr s) = absurd (omega (arith, ap length (s.1)))
index_front-some (b ∷ []) value (suc (suc n)) within (inr s) = absurd (omega arith)
index_front-some (b ∷ c ∷ rest) value (suc (suc n)) within (inr s) = long-parts value b c n rest (omega arith) s.1

index_front-low : (b : ℕ) (rest : List ℕ) → 128 ≤ b → b < 256 → ((i : ℕ) → get_or rest i 0 < 256)
    → ((value n : ℕ) → Index value (take n (b ∷ rest)) → ⊥) → low_front b rest ≡ None
index_front-low b [] high fits_b fits none = refl
index_front-low b (c ∷ rest) high fits_b fits none =
    let small : c < 256 = fits 0 in
    let value = 256 * (b - 128) + c in
    let b-is : b ≡ 128 + value / 256 = omega arith in
    let c-is : c ≡ value % 256 = omega arith in
    let top : value ≤ 32767 = omega arith in
    let e : b ∷ c ∷ [] ≡ (128 + value / 256) ∷ value % 256 ∷ [] =
    ap (λ k. k ∷ c ∷ []) b-is ∙ ap (λ k. (128 + value / 256) ∷ k ∷ []) c-is in
    absurd (none value 2 (inr (top, e)))

pub index_front-none : (bytes : List ℕ) → ((i : ℕ) → get_or bytes i 0 < 256)
    → ((value n : ℕ) → Index value (take n bytes) → ⊥) → index_front bytes ≡ None
index_front-none [] fits none = refl
index_front-none (b ∷ rest) fits none =
    elim (cases_lt b 128) [
      | inl lt ↦ absurd (none b 1 (inl (omega arith, refl)))
      | inr le ↦ ap (λ t. cond t (Some (b, rest)) (low_front b rest)) (le-ltb b 128 le)
          ∙ index_front-low b rest le (fits 0) (λ i. fits (suc i)) none
    ]

-- ---- lengths of communal variables

pub length_of_two : (bytes : List ℕ) → 1 ≤ length bytes → get_or bytes 0 0 ≡ 0x81
    → behind_length bytes ≡ behind_bytes 2 (drop 1 bytes)
unfolding behind_length
length_of_two [] some e = absurd (omega arith)
length_of_two (first ∷ rest) some e = rw e refl

pub length_of_three : (bytes : List ℕ) → 1 ≤ length bytes → get_or bytes 0 0 ≡ 0x84
    → behind_length bytes ≡ behind_bytes 3 (drop 1 bytes)
unfolding behind_length
length_of_three [] some e = absurd (omega arith)
length_of_three (first ∷ rest) some e = rw e refl

pub length_of_four : (bytes : List ℕ) → 1 ≤ length bytes → get_or bytes 0 0 ≡ 0x88
    → behind_length bytes ≡ behind_bytes 4 (drop 1 bytes)
unfolding behind_length
length_of_four [] some e = absurd (omega arith)
length_of_four (first ∷ rest) some e = rw e refl
