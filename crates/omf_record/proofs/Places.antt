-- What holds of the bytes of blocks with their places holds of their expansion; and where its places lie.
use Rattle.std.specs.List.{repeat as copies}
use Rattle.std.proofs.Common.{◌≡◌, ℕ, zero, suc, ◌+◌, ◌<◌, ◌≤◌, List, [], ◌∷◌, ◌++◌, length, get_or, subst, arith}
use Rattle.std.specs.List.{AllByRecursion}
use Rattle.omf_record.specs.Record.{Block, Content, Nested, Blocks, End, More}
use Rattle.omf_record.specs.Canonical as canon
use Rattle.omf_record.specs.Expansion.{stored_len, all_stored_len, expansion_at, expansions_at, places}
use Rattle.omf_record.specs.inside.Fields.{stored_from}
use Rattle.omf_record.proofs.Stored.{length-block, length-blocks}

pub all-append : {X : Type 0} (P : X → Type 0) (xs ys : List X) → AllByRecursion P xs → AllByRecursion P ys
    → AllByRecursion P (xs ++ ys)
all-append P [] ys f g = g
all-append P (x ∷ xs) ys f g = (f.0, all-append P xs ys f.1 g)

-- what passes on to two lists joined passes on to copies
pub all_copies : (P : List (ℕ × ℕ) → Type 0) → P [] → ((xs ys : List (ℕ × ℕ)) → P xs → P ys → P (xs ++ ys))
    → (n : ℕ) (xs : List (ℕ × ℕ)) → P xs → P (copies n xs)
all_copies P none joined zero xs f = none
all_copies P none joined (suc n) xs f = joined xs (copies n xs) f (all_copies P none joined n xs f)

module _ (Q : ℕ × ℕ → Type 0) where
  -- of the bytes behind the first ones, which end at a place
  rest_too : (place after : ℕ) (front rest : List ℕ) → place + length front ≡ after
      → AllByRecursion Q (stored_from place (front ++ rest)) → AllByRecursion Q (stored_from after rest)
  rest_too place after [] rest is f =
      let same : place ≡ after = omega arith in
      subst (λ p. AllByRecursion Q (stored_from p rest)) same f
  rest_too place after (b ∷ front) rest is f = rest_too (place + 1) after front rest (omega arith) f.1

  front_too : (place : ℕ) (front rest : List ℕ) → AllByRecursion Q (stored_from place (front ++ rest))
      → AllByRecursion Q (stored_from place front)
  front_too place [] rest f = tt
  front_too place (b ∷ front) rest f = (f.0, front_too (place + 1) front rest f.1)

  mutual
    pub all_of_block : (place : ℕ) (b : Block) → AllByRecursion Q (stored_from place (canon.block b))
        → AllByRecursion Q (expansion_at place b)
    all_of_block place (Content repeat bytes) f =
        all_copies (AllByRecursion Q) tt (all-append Q) repeat (stored_from (place + 5) bytes)
        (rest_too (place + 1 + 1 + 1 + 1 + 1) (place + 5) [] bytes (omega arith) f.1.1.1.1.1)
    all_of_block place (Nested repeat blocks) f =
        all_copies (AllByRecursion Q) tt (all-append Q) repeat (expansions_at (place + 4) blocks)
        (all_of_blocks (place + 4) blocks
        (rest_too (place + 1 + 1 + 1 + 1) (place + 4) [] (canon.blocks_text blocks) (omega arith) f.1.1.1.1))

    pub all_of_blocks : (place : ℕ) (bs : Blocks) → AllByRecursion Q (stored_from place (canon.blocks_text bs))
        → AllByRecursion Q (expansions_at place bs)
    all_of_blocks place End f = tt
    all_of_blocks place (More b bs) f =
        let after = place + stored_len b in
        all-append Q (expansion_at place b) (expansions_at after bs)
        (all_of_block place b (front_too place (canon.block b) (canon.blocks_text bs) f))
        (all_of_blocks after bs
        (rest_too place after (canon.block b) (canon.blocks_text bs) (omega (arith, length-block b)) f))

-- ---- where the places lie

abbrev pub Between : ℕ → ℕ → List (ℕ × ℕ) → Type 0
Between low high = AllByRecursion (λ (q : ℕ × ℕ). (low ≤ q.0) × (q.0 < high))

between : (low high place : ℕ) (bytes : List ℕ) → low ≤ place → place + length bytes ≤ high
    → Between low high (stored_from place bytes)
between low high place [] le fits = tt
between low high place (b ∷ bytes) le fits =
    ((le, omega arith), between low high (place + 1) bytes (omega arith) (omega arith))

pub between-block : (place : ℕ) (b : Block) → Between place (place + stored_len b) (expansion_at place b)
between-block place b =
    all_of_block _ place b
    (between place (place + stored_len b) place (canon.block b) (omega arith) (omega (arith, length-block b)))

pub between-blocks : (place : ℕ) (bs : Blocks) → Between place (place + all_stored_len bs) (expansions_at place bs)
between-blocks place bs =
    all_of_blocks _ place bs
    (between place (place + all_stored_len bs) place (canon.blocks_text bs) (omega arith)
    (omega (arith, length-blocks bs)))

pub between-at : (low high : ℕ) (xs : List (ℕ × ℕ)) → Between low high xs → (i : ℕ) → i < length (places xs)
    → (low ≤ get_or (places xs) i 0) × (get_or (places xs) i 0 < high)
between-at low high [] f i lt = absurd (omega arith)
between-at low high (x ∷ xs) f zero lt = f.0
between-at low high (x ∷ xs) f (suc i) lt = between-at low high xs f.1 i (omega arith)
