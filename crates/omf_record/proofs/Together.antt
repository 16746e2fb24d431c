-- Wherever an expansion has a byte of a content, the bytes of the content stand around it, one after the other.
use Rattle.std.specs.List.{repeat as copies}
use Rattle.std.proofs.Common.{◌≡◌, ℕ, ◌+◌, ◌-◌, ◌<◌, ◌≤◌, ◌⊎◌, inl, inr, List, ◌++◌, length, get_or, sym, ap, ◌∙◌}
use Rattle.std.proofs.Common.{arith}
use Rattle.std.proofs.lemmas.Bool.{cases_lt}
use Rattle.std.proofs.lemmas.List.{length-append, get_or_append_left, get_or-append-add, map-append}
use Rattle.std.proofs.lemmas.List.{length-map}
use Rattle.omf_record.specs.Record.{Block, Content, Nested, Blocks, End, More, blocks_of}
use Rattle.omf_record.specs.Expansion.{stored_len, all_stored_len, expansion_at, expansions_at, expansion}
use Rattle.omf_record.specs.Expansion.{places, contents_at, all_contents_at, contents, LiesInOne, StandTogether}
use Rattle.omf_record.specs.Expansion.{StandWhole}
use Rattle.omf_record.specs.inside.Fields.{stored_from}
use Rattle.omf_record.proofs.Expanded.{length_stored, place-at}
use Rattle.omf_record.proofs.Places.{all_copies, Between, between-block, between-blocks, between-at}
use Rattle.omf_record.proofs.Searched.{lies_either, content_within, contents_within}

-- ---- two lists joined

-- an element of the first, or of the second
abbrev Either : (xs ys : List ℕ) (i : ℕ) → Type 0
Either xs ys i =
    ((i < length xs) × (get_or (xs ++ ys) i 0 ≡ get_or xs i 0))
    ⊎ ((j : ℕ) × (i ≡ length xs + j) × (j < length ys) × (get_or (xs ++ ys) i 0 ≡ get_or ys j 0))

either : (xs ys : List ℕ) (i : ℕ) → i < length (xs ++ ys) → Either xs ys i
either xs ys i lt = elim (cases_lt i (length xs)) [
  | inl near ↦ inl (near, get_or_append_left xs ys 0 i near)
  | inr far ↦ later (i - length xs) (omega arith)
]
  where
    later : (j : ℕ) → i ≡ length xs + j → Either xs ys i
    later j is =
        inr (
          j,
          is,
          omega (arith, length-append xs ys),
          ap (λ n. get_or (xs ++ ys) n 0) is ∙ get_or-append-add xs ys j 0,
        )

-- around each place of these, the others stand
abbrev Around : (x width : ℕ) → List (ℕ × ℕ) → Type 0
Around x width xs =
    (i j k : ℕ) → i < length (places xs) → j < width → k < width → get_or (places xs) i 0 ≡ x + j
    → (j ≤ i) × (i - j + k < length (places xs)) × (get_or (places xs) (i - j + k) 0 ≡ x + k)

pub around-stored : (x width place : ℕ) (bytes : List ℕ) → place ≤ x → x + width ≤ place + length bytes
    → Around x width (stored_from place bytes)
around-stored x width place bytes low high i j k lt small some hit =
    let len : length (places (stored_from place bytes)) ≡ length bytes =
    length-map (stored_from place bytes) (λ p. p.0) ∙ length_stored place bytes in
    let here = place-at place bytes i (omega (arith, len)) in
    let within : i - j + k < length bytes = omega (arith, here, hit, high, low) in (
      omega (arith, here, hit, low),
      omega (arith, len),
      place-at place bytes (i - j + k) within
          ∙ omega (arith, here, hit, low),
    )

module _ (x width : ℕ) where
  joined : (xs ys : List (ℕ × ℕ)) → Around x width xs → Around x width ys → Around x width (xs ++ ys)
  joined xs ys f g = rw (map-append (λ p. p.0) xs ys) (λ i j k lt small some hit.
      let total = length-append (places xs) (places ys) in
      elim (either (places xs) (places ys) i lt) [
        | inl a ↦
            let h = f i j k a.0 small some (sym a.1 ∙ hit) in
            (h.0, omega (arith, h.1), get_or_append_left (places xs) (places ys) 0 (i - j + k) h.1 ∙ h.2)
        | inr (m, is, lt', a) ↦
            let h = g m j k lt' small some (sym a ∙ hit) in
            let there : i - j + k ≡ length (places xs) + (m - j + k) = omega (arith, h.0) in (
              omega (arith, h.0),
              omega (arith, h.1, there),
              ap (λ n. get_or (places xs ++ places ys) n 0) there
                  ∙ get_or-append-add (places xs) (places ys) (m - j + k) 0 ∙ h.2,
            )
      ])

  apart : (low high : ℕ) (xs : List (ℕ × ℕ)) → Between low high xs → (high ≤ x) ⊎ (x + width ≤ low) → Around x width xs
  apart low high xs f side i j k lt small some hit =
      let h = between-at low high xs f i lt in
      elim side [ inl le ↦ absurd (omega (arith, h.1, hit)) | inr le ↦ absurd (omega (arith, h.0, hit)) ]

  repeated : (n : ℕ) (xs : List (ℕ × ℕ)) → Around x width xs → Around x width (copies n xs)
  repeated = all_copies (Around x width) (λ i j k lt small some hit. absurd (omega arith)) joined

  mutual
    in_block : (place : ℕ) (b : Block) → LiesInOne x width (contents_at place b) → Around x width (expansion_at place b)
    in_block place (Content repeat bytes) (inl l) =
        repeated repeat (stored_from (place + 5) bytes) (around-stored x width (place + 5) bytes l.0 l.1)
    in_block place (Content repeat bytes) (inr l) = absurd l
    in_block place (Nested repeat blocks) l =
        repeated repeat (expansions_at (place + 4) blocks) (in_blocks (place + 4) blocks l)

    in_blocks : (place : ℕ) (bs : Blocks) → LiesInOne x width (all_contents_at place bs)
        → Around x width (expansions_at place bs)
    in_blocks place End l = absurd l
    in_blocks place (More b bs) l =
        let after = place + stored_len b in
        elim (lies_either x width (contents_at place b) (all_contents_at after bs) l) [
          | inl h ↦ joined (expansion_at place b) (expansions_at after bs) (in_block place b h)
              (apart after (after + all_stored_len bs) (expansions_at after bs) (between-blocks after bs)
              (inr (content_within x width place b h).1))
          | inr h ↦ joined (expansion_at place b) (expansions_at after bs)
              (apart place after (expansion_at place b) (between-block place b)
              (inl (omega (arith, (contents_within x width after bs h).0)))) (in_blocks after bs h)
        ]

-- ---- the two facts

together_of : (x width : ℕ) (xs : List (ℕ × ℕ)) → Around x width xs → StandTogether x width (places xs)
together_of x width xs f i k lt hit small =
    let h = f i 0 k lt (omega arith) small (omega (arith, hit)) in
    let e : i - 0 + k ≡ i + k = omega arith in
    (omega (arith, h.1), ap (λ n. get_or (places xs) n 0) (sym e) ∙ h.2)

whole_of : (x width : ℕ) (xs : List (ℕ × ℕ)) → Around x width xs → StandWhole x width (places xs)
whole_of x width xs f i k lt small hit =
    let h = f i k 0 lt small (omega arith) hit in
    let e : i - k + 0 ≡ i - k = omega arith in
    (h.0, ap (λ n. get_or (places xs) n 0) (sym e) ∙ h.2 ∙ omega arith)

pub together-stored : (x width place : ℕ) (bytes : List ℕ) → place ≤ x → x + width ≤ place + length bytes
    → StandTogether x width (places (stored_from place bytes))
together-stored x width place bytes low high =
    together_of x width (stored_from place bytes) (around-stored x width place bytes low high)

pub whole-stored : (x width place : ℕ) (bytes : List ℕ) → place ≤ x → x + width ≤ place + length bytes
    → StandWhole x width (places (stored_from place bytes))
whole-stored x width place bytes low high =
    whole_of x width (stored_from place bytes) (around-stored x width place bytes low high)

pub together : (bs : List Block) (x width : ℕ) → LiesInOne x width (contents bs)
    → StandTogether x width (places (expansion bs))
unfolding contents expansion
together bs x width l = together_of x width (expansions_at 0 (blocks_of bs)) (in_blocks x width 0 (blocks_of bs) l)

pub whole : (bs : List Block) (x width : ℕ) → LiesInOne x width (contents bs)
    → StandWhole x width (places (expansion bs))
unfolding contents expansion
whole bs x width l = whole_of x width (expansions_at 0 (blocks_of bs)) (in_blocks x width 0 (blocks_of bs) l)
