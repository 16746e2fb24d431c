-- The image with a paragraph added to its relocated words, part by part.
use Rattle.std.proofs.Common.{slice_range, ◌≡◌, ◌≢◌, ℕ, zero, suc, ◌+◌, ◌-◌, ◌%◌, ◌/◌, ◌≤◌, ◌<◌, min, max, List}
use Rattle.std.proofs.Common.{[]}
use Rattle.std.proofs.Common.{◌∷◌, ◌++◌, take, drop, length, get_or, All, AllPairs, inl, inr, refl, ap, ap₂, ◌∙◌, sym}
use Rattle.std.proofs.Common.{subst}
use Rattle.std.proofs.Common.{arith}
use Rattle.std.proofs.lemmas.Bool.{cases_lt, cases_eq}
use Rattle.std.proofs.lemmas.List.{drop_more, take_rest}
use Rattle.omf_image.specs.Words.{word_at, add_words}
use Rattle.omf_image.proofs.Words.{length-add_word}
use Rattle.omf_image.proofs.Members.{In, in_index}
use Rattle.omf_image.proofs.Moved.{MovedBy, AllApart, AllWordsInside, add_words-moves}
use Rattle.flat_file.proofs.Slicing.{capped, joined, later, nothing, parted, same_part}

-- the index of a number of a list
index_of : (r : ℕ) (xs : List ℕ) → In r xs → (k : ℕ) × (k < length xs) × (get_or xs k 0 ≡ r)
index_of r [] h = absurd h
index_of r (x ∷ xs) h = elim h [
  | inl e ↦ (zero, omega arith, sym e)
  | inr later ↦ let g = index_of r xs later in (suc g.0, omega (arith, g.1), g.2)
]

apart_all : (rs : List ℕ) → AllPairs (λ r s. r + 2 ≤ s) rs → AllApart rs
apart_all [] h = tt
apart_all (r ∷ rs) h = (
  λ s there.
      let g = index_of s rs there in
      inl (let l = h zero (suc g.0) 0 (omega arith) (omega (arith, g.1)) in omega (arith, l, g.2)),
  apart_all rs (λ i j d l m. h (suc i) (suc j) d (omega (arith, l)) (omega (arith, m))),
)

inside_all : (rs : List ℕ) (end n : ℕ) → All (λ r. r + 2 ≤ end) rs → end ≤ n → AllWordsInside n rs
inside_all rs end n h within r there =
    let g = index_of r rs there in let l = h g.0 0 g.1 in omega (arith, l, g.2, within)

pub length-add_words : (P : ℕ) (rs xs : List ℕ) → length (add_words P rs xs) ≡ length xs
length-add_words P [] xs = refl
length-add_words P (r ∷ rs) xs = length-add_words P rs _ ∙ length-add_word P r xs

-- the words up to one more lie before where they did, or that one does
pub behind_more : (rs : List ℕ) (i at r next : ℕ) → r ≡ get_or rs i 0 → next ≡ max at (r + 2)
    → ((k : ℕ) → k < i → get_or rs k 0 + 2 ≤ at) → (k : ℕ) → k < i + 1 → get_or rs k 0 + 2 ≤ next
behind_more rs i at r next r_is next_is before k h = elim (cases_lt k i) [
  | inl early ↦ let l = before k early in omega (arith, l, next_is)
  | inr late ↦
      let same : k ≡ i = omega (arith, h, late) in
      let e : get_or rs k 0 ≡ r = ap (λ (n : ℕ). get_or rs n 0) same ∙ sym r_is in omega (arith, e, next_is)
]

-- words that share no byte and lie below an end of the image
module _ (P end : ℕ) (rs xs : List ℕ) (apart : AllPairs (λ r s. r + 2 ≤ s) rs) (inside : All (λ r. r + 2 ≤ end) rs)
    (within : end ≤ length xs) where
  abbrev moved : List ℕ
  moved = add_words P rs xs

  moves : MovedBy P (λ r. In r rs) (λ a. get_or xs a 0) (λ a. get_or moved a 0)
  moves = add_words-moves P rs xs (apart_all rs apart) (inside_all rs end (length xs) inside within)

  -- no word of the list has a byte between the words before one of them and that one
  between : (i at a : ℕ) → ((k : ℕ) → k < i → get_or rs k 0 + 2 ≤ at) → at ≤ a
      → (i < length rs → a < get_or rs i 0) → (r : ℕ) → In r rs → (a ≢ r) × (a ≢ r + 1)
  between i at a before low high r there =
      let g = index_of r rs there in
      elim (cases_lt g.0 i) [
        | inl early ↦ let l = before g.0 early in (λ e. omega (arith, l, g.2, e), λ e. omega (arith, l, g.2, e))
        | inr late ↦
            elim (cases_eq g.0 i) [
              | inl same ↦
                  let h : a < r = (let l = high (omega (arith, g.1)) in
                  let q : get_or rs i 0 ≡ r = ap (λ (n : ℕ). get_or rs n 0) (sym same) ∙ g.2 in omega (arith, l, q)) in
                  (λ e. omega (arith, h, e), λ e. omega (arith, h, e))
              | inr other ↦
                  let h : a < r = (let l = high (omega (arith, g.1, late)) in
                  let q = apart i g.0 0 (omega (arith, late, other)) g.1 in omega (arith, l, q, g.2)) in
                  (λ e. omega (arith, h, e), λ e. omega (arith, h, e))
            ]
      ]

  -- up to a word the bytes are those of the image
  pub unmoved : (i at : ℕ) → i < length rs → ((k : ℕ) → k < i → get_or rs k 0 + 2 ≤ at)
      → slice_range xs at (get_or rs i 0) ≡ slice_range moved at (get_or rs i 0)
  unmoved i at there before =
      same_part xs moved at (get_or rs i 0) (sym (length-add_words P rs xs))
      (λ a low high. sym (moves.elsewhere a (between i at a before low (λ _. high))))

  -- and so are they behind the last
  pub unmoved_behind : (i at b : ℕ) → length rs ≤ i → ((k : ℕ) → k < i → get_or rs k 0 + 2 ≤ at)
      → slice_range xs at b ≡ slice_range moved at b
  unmoved_behind i at b all before =
      same_part xs moved at b (sym (length-add_words P rs xs))
      (λ a low high. sym (moves.elsewhere a (between i at a before low (λ l. absurd (omega arith)))))

  -- the bytes of a word
  pub word_is : (i r : ℕ) → i < length rs → r ≡ get_or rs i 0
      → let w = (word_at xs r + P) % 65536 in slice_range moved r (r + 2) ≡ w % 256 ∷ w / 256 ∷ []
  word_is i r there is =
      let w = (word_at xs r + P) % 65536 in
      let member : In r rs = subst (λ (x : ℕ). In x rs) (sym is) (in_index rs i 0 there) in
      let room = inside_all rs end (length xs) inside within r member in
      let long = length-add_words P rs xs in
      let low = moves.low r member in
      let high = moves.high r member in
      let two : r + 2 - r ≡ 2 = omega arith in
      ap (λ (n : ℕ). take n (drop r moved)) two
      ∙ ap (take 2) (drop_more moved r 0 (omega (arith, room, long))
      ∙ ap (λ (l : List ℕ). get_or moved r 0 ∷ l) (drop_more moved (r + 1) 0 (omega (arith, room, long))))
      ∙ ap₂ (λ (a b : ℕ). a ∷ b ∷ []) low high

  -- what of a word lies from an address on
  module _ (i r at skipped : ℕ) (there : i < length rs) (r_is : r ≡ get_or rs i 0) (least : skipped ≡ min (at - r) 2)
    where
      abbrev bytes : List ℕ
      bytes = let w = (word_at xs r + P) % 65536 in w % 256 ∷ w / 256 ∷ []

      word_end : slice_range moved (r + skipped) (r + 2) ≡ slice_range moved (max at r) (max at (r + 2))
      word_end = elim (cases_lt at (r + 2)) [
        | inl near ↦
            let place : r + skipped ≡ max at r = omega (arith, least, near) in
            let behind : r + 2 ≡ max at (r + 2) = omega (arith, near) in
            ap₂ (λ (a b : ℕ). slice_range moved a b) place behind
        | inr past ↦
            nothing moved (r + skipped) (r + 2) (omega (arith, least, past))
            ∙ sym (nothing moved (max at r) (max at (r + 2)) (omega (arith, past)))
      ]

      word_part : drop skipped bytes ≡ slice_range moved (max at r) (max at (r + 2))
      word_part = ap (drop skipped) (sym (word_is i r there r_is)) ∙ later moved r (r + 2) skipped ∙ word_end

      -- as the code has it
      pub word_tail : (word : List ℕ) → word ≡ bytes → take (2 - skipped) (drop skipped word) ≡ drop skipped bytes
      word_tail word is =
          ap (λ (l : List ℕ). take (2 - skipped) (drop skipped l)) is ∙ take_rest bytes skipped

      module _ (from : ℕ) (above : from ≤ at) (below : at ≤ max from end)
          (before : (k : ℕ) → k < i → get_or rs k 0 + 2 ≤ at) where
        low : r + 2 ≤ end
        low = let l = inside i 0 there in omega (arith, l, r_is)

        unmoved_part : slice_range xs at r ≡ slice_range moved at (max at r)
        unmoved_part =
            subst (λ (x : ℕ). slice_range xs at x ≡ slice_range moved at x) (sym r_is) (unmoved i at there before)
            ∙ capped moved at r

        whole : slice_range moved from end ≡ slice_range moved from (max from end)
        whole = capped moved from end

        -- the image up to the word, and what is left
        pub up_to_word : slice_range moved from at ++ slice_range xs at r ≡ slice_range moved from (max at r)
        up_to_word =
            ap (λ (l : List ℕ). slice_range moved from at ++ l) unmoved_part
            ∙ joined moved from at (max at r) above (omega arith)

        pub word_ahead : slice_range moved from end
            ≡ slice_range moved from at ++ (slice_range xs at r ++ slice_range moved (max at r) (max from end))
        word_ahead =
            whole ∙ parted moved from at (max at r) (max from end) above (omega arith) (omega (arith, below, low))
            ∙ ap (λ (l : List ℕ). slice_range moved from at ++ (l ++ slice_range moved (max at r) (max from end)))
            (sym unmoved_part)

        -- the word, and what is left
        pub behind_word : slice_range moved from (max at r) ++ drop skipped bytes
            ≡ slice_range moved from (max at (r + 2))
        behind_word =
            ap (λ (l : List ℕ). slice_range moved from (max at r) ++ l) word_part
            ∙ joined moved from (max at r) (max at (r + 2)) (omega (arith, above)) (omega arith)

        pub word_split : slice_range moved from end ≡ slice_range moved from (max at r)
            ++ (drop skipped bytes ++ slice_range moved (max at (r + 2)) (max from end))
        word_split =
            whole
            ∙ parted moved from (max at r) (max at (r + 2)) (max from end) (omega (arith, above)) (omega arith)
            (omega (arith, below, low))
            ∙ ap
            (λ (l : List ℕ).
            slice_range moved from (max at r) ++ (l ++ slice_range moved (max at (r + 2)) (max from end)))
            (sym word_part)

  -- the image behind the last word
  pub behind_last : (i from at : ℕ) → length rs ≤ i → ((k : ℕ) → k < i → get_or rs k 0 + 2 ≤ at) → from ≤ at
      → at ≤ max from end → slice_range moved from at ++ slice_range xs at end ≡ slice_range moved from end
  behind_last i from at all before above below =
      let count : max at end - from ≡ end - from = omega (arith, above, below) in
      ap (λ (l : List ℕ). slice_range moved from at ++ l) (unmoved_behind i at end all before ∙ capped moved at end)
      ∙ joined moved from at (max at end) above (omega arith)
      ∙ ap (λ (n : ℕ). take n (drop from moved)) count
