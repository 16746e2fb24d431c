-- The blocks of LIDATA: their parts and their laws, level by level.
use Rattle.std.proofs.Common.{◌≡◌, ℕ, zero, suc, ◌+◌, ◌-◌, ◌<◌, List, [], ◌∷◌, ◌++◌, length, map, Option, Some, None}
use Rattle.std.proofs.Common.{Bor, refl, sym, ap, subst, ◌∙◌, append_assoc, append-nil, arith}
use Rattle.std.specs.Prelude.{replicate}
use Rattle.std.specs.List.{flat_map}
use Rattle.std.proofs.lemmas.List.{replicate-append-replicate}
use Rattle.std.proofs.lemmas.List.Concat.{flat_map-cons}
use Rattle.omf_record.specs.declared.blocks.Block as code
use Rattle.omf_record.specs.Language.{each, Word}
use Rattle.omf_record.specs.Record.{Block, Content, Nested, Blocks, End, More, block_list, blocks_of}
use Rattle.omf_record.specs.View.{block_view}
use Rattle.omf_record.specs.Body.{BlockText}
use Rattle.omf_record.specs.Canonical as canon
use Rattle.omf_codec.specs.inside.Format.{join, Format, IsFree, Lawful, Completes, IsFilled, IsMade, Splits, free}
use Rattle.omf_codec.specs.inside.FormatLaws.{both, both_lawful, both_filled, behind, behind_lawful, behind_filled}
use Rattle.omf_codec.specs.inside.FormatLaws.{when, when_lawful, bits_at, made_lawful, made_filled, exact}
use Rattle.omf_codec.specs.inside.FormatLaws.{exact_splits, same, each_shortest, each_bytes}
use Rattle.omf_codec.specs.inside.PrimitiveLaws.{word, word_lawful, word_filled, name, name_lawful, fact_byte}
use Rattle.omf_codec.specs.inside.PrimitiveLaws.{IsZero}

-- ---- so many texts, one behind the other

module _ {I A : Type 0} (F : Format I A) where
  -- so many texts of the field
  abbrev pub times : ℕ → Format (List I) (List A)
  times n = free (map F.view) (λ xs text. (length xs ≡ n) × each F.Text xs text) (flat_map F.canonical)

  -- zeros complete the first text, and make the others
  pub times_begun : (n : ℕ) (front : List ℕ) → Completes F front → Completes (times n) []
      → Completes (times (suc n)) front
  times_begun n front (a, x, l) (b, xs, m) = (
    a + b,
    x ∷ xs,
    (
      omega (arith, m.0),
      join (front ++ replicate a 0) (replicate b 0)
          (ap (λ (k : List ℕ). front ++ k) (sym (replicate-append-replicate a b 0))
          ∙ sym (append_assoc front (replicate a 0) (replicate b 0))) l m.1,
    ),
  )

  pub times_blank : Completes F [] → (n : ℕ) → Completes (times n) []
  times_blank blank zero = (0, [], (refl, refl))
  times_blank blank (suc n) = times_begun n [] blank (times_blank blank n)

  pub times_lawful : Lawful F → IsFree F → (n : ℕ) → Lawful (times n)
  times_lawful law unended n = record {
    one = λ xs ys s t r q l m u v e. one xs ys s t r q (l.0 ∙ sym m.0) l.1 m.1 e;
    shortest = λ xs text l. let a = each_shortest F law xs text l.1 in ((l.0, a.0), a.1);
    bytes = λ xs text l. each_bytes F law xs text l.1;
  }
    where
      one : (xs ys : List A) (s t r q : List ℕ) → length xs ≡ length ys → each F.Text xs s → each F.Text ys t
          → s ++ r ≡ t ++ q → (xs ≡ ys) × (s ≡ t)
      one [] [] s t r q len l m e = (refl, l ∙ sym m)
      one [] (y ∷ ys) s t r q len l m e = absurd (omega (arith, len))
      one (x ∷ xs) [] s t r q len l m e = absurd (omega (arith, len))
      one (x ∷ xs) (y ∷ ys) s t r q len l m e =
          let a = same F law unended x y l.front m.front (l.rest ++ r) (m.rest ++ q) l.first m.first
          (sym (append_assoc l.front l.rest r) ∙ ap (λ (k : List ℕ). k ++ r) (sym l.parts) ∙ e
          ∙ ap (λ (k : List ℕ). k ++ q) m.parts ∙ append_assoc m.front m.rest q) in
          let b = one xs ys l.rest m.rest r q (omega (arith, len)) l.second m.second a.rest in (
            ap (λ z. z ∷ xs) a.value ∙ ap (λ zs. y ∷ zs) b.0,
            l.parts ∙ ap (λ (k : List ℕ). k ++ l.rest) a.text
                ∙ ap (λ (k : List ℕ). m.front ++ k) b.1 ∙ sym m.parts,
          )

-- ---- the parts of a block

-- the repeat count, the count of the blocks in it, and the content where there are none
abbrev pub head : Format (ℕ × (ℕ × Option (Bor (List ℕ)))) (ℕ × (ℕ × Option (List ℕ)))
head = both word (behind word (λ n. when (bits_at 1 65536 n ≡ 0) name) (λ rest. Unit {0}))

pub head_lawful : Lawful head
head_lawful = both_lawful word word_lawful (λ r. tt)
    (behind word (λ n. when (bits_at 1 65536 n ≡ 0) name) (λ rest. Unit {0}))
    (behind_lawful word (λ n. when (bits_at 1 65536 n ≡ 0) name) (λ rest. Unit {0}) word_lawful (λ r. tt)
    (λ n. when_lawful (bits_at 1 65536 n ≡ 0) name name_lawful (λ r. tt)) (λ n rest u. tt))

-- the parts of a block that none may stand in
abbrev pub leaf : Format (ℕ × ((ℕ × ℕ) × Bor (List ℕ))) (ℕ × ((ℕ × ℕ) × List ℕ))
leaf = both word (both (both (fact_byte IsZero) (fact_byte IsZero)) name)

-- a text of a block that stands in one with so many levels below it
abbrev pub InnerText : ℕ → Block → List ℕ → Type 0
InnerText zero b text = ⊥
InnerText (suc below) b text = BlockText below b text

module _ {A : Type 0} where
  -- a block that may have blocks on so many levels below it
  abbrev pub block : ℕ → Format (code.Block A) Block
  block below = free block_view (BlockText below) canon.block

  -- a block in such a block
  abbrev pub inner : ℕ → Format (code.Block A) Block
  inner below = free block_view (InnerText below) canon.block

  -- what such a block is made of: its head, and as many blocks as that says
  abbrev pub Parts : ℕ → Format ((ℕ × (ℕ × Option (Bor (List ℕ)))) × List (code.Block A)) ((ℕ × (ℕ × Option (List ℕ)))
      × List Block)
  Parts below = behind head (λ h. times (inner below) h.1.0) (λ rest. Unit {0})

pub counted : (n : ℕ) → (bits_at 1 65536 n ≡ 0 → ⊥) → 0 < n
counted zero h = absurd (h refl)
counted (suc n) h = omega arith

pub list_blocks : (bs : List Block) → block_list (blocks_of bs) ≡ bs
list_blocks [] = refl
list_blocks (b ∷ bs) = ap (λ cs. b ∷ cs) (list_blocks bs)

blocks_list : (bs : Blocks) → blocks_of (block_list bs) ≡ bs
blocks_list End = refl
blocks_list (More b bs) = ap (More b) (blocks_list bs)

pub blocks-flat : (bs : List Block) → flat_map canon.block bs ≡ canon.blocks_text (blocks_of bs)
blocks-flat [] = refl
blocks-flat (b ∷ bs) = flat_map-cons canon.block b bs ∙ ap (λ (t : List ℕ). canon.block b ++ t) (blocks-flat bs)

-- the block of these parts
abbrev pub block_made : (ℕ × (ℕ × Option (List ℕ))) × List Block → Block
block_made ((repeat, (n, Some bytes)), bs) = Content repeat bytes
block_made ((repeat, (n, None)), bs) = Nested repeat (blocks_of bs)

-- the parts of a block
abbrev pub block_parts : Block → (ℕ × (ℕ × Option (List ℕ))) × List Block
block_parts (Content repeat bytes) = ((repeat, (0, Some bytes)), [])
block_parts (Nested repeat blocks) = ((repeat, (length (block_list blocks), None)), block_list blocks)

back : (y : Block) → block_made (block_parts y) ≡ y
back (Content repeat bytes) = refl
back (Nested repeat blocks) = ap (Nested repeat) (blocks_list blocks)

pub content_to : (below repeat n : ℕ) (bytes text : List ℕ) → head.Text (repeat, (n, Some bytes)) text
    → BlockText below (Content repeat bytes) text
content_to below repeat n bytes text j =
    let k = j.second in
    let zero : n ≡ 0 = omega (arith, k.second.0, k.first.0) in
    join j.front j.rest j.parts j.first (join k.front k.rest k.parts
    (subst (λ m. Word m k.front) zero k.first) k.second.1)

content_from : (below repeat : ℕ) (bytes text : List ℕ) → BlockText below (Content repeat bytes) text
    → head.Text (repeat, (0, Some bytes)) text
content_from below repeat bytes text j =
    let k = j.second in
    join j.front j.rest j.parts j.first (join k.front k.rest k.parts k.first (refl, k.second))

pub block_to : (below : ℕ) (x : (ℕ × (ℕ × Option (List ℕ))) × List Block) (text : List ℕ)
    → (Parts {A = ℕ} below).Text x text → BlockText below (block_made x) text
block_to below ((repeat, (n, Some bytes)), b ∷ bs) text j =
    absurd (omega (arith, j.first.second.second.0, j.first.second.first.0, j.second.0))
block_to below ((repeat, (n, Some bytes)), []) text j =
    subst (BlockText below (Content repeat bytes))
    (sym (j.parts ∙ ap (λ (t : List ℕ). j.front ++ t) j.second.1 ∙ append-nil j.front))
    (content_to below repeat n bytes j.front j.first)
block_to zero ((repeat, (n, None)), []) text j = absurd (omega (arith, counted n j.first.second.second.0, j.second.0))
block_to zero ((repeat, (n, None)), b ∷ bs) text j = absurd j.second.1.first
block_to (suc below) ((repeat, (n, None)), bs) text j =
    let i = j.first in
    let k = i.second in
    let len : n ≡ length (block_list (blocks_of bs)) = rw (list_blocks bs) (sym j.second.0) in
    let bare : i.rest ≡ k.front = k.parts ∙ ap (λ (t : List ℕ). k.front ++ t) k.second.1 ∙ append-nil k.front in
    join i.front (k.front ++ j.rest) (j.parts
    ∙ ap (λ (t : List ℕ). t ++ j.rest) (i.parts ∙ ap (λ (t : List ℕ). i.front ++ t) bare)
    ∙ append_assoc i.front k.front j.rest) i.first
    (join k.front j.rest refl (
      subst (λ m. 0 < m) len (counted n k.second.0),
      subst (λ m. Word m k.front) len k.first,
    )
    (subst (λ cs. each (BlockText below) cs j.rest) (sym (list_blocks bs)) j.second.1))

block_from : (below : ℕ) (y : Block) (text : List ℕ) → BlockText below y text
    → (Parts {A = ℕ} below).Text (block_parts y) text
block_from below (Content repeat bytes) text j =
    join text [] (sym (append-nil text)) (content_from below repeat bytes text j) (refl, refl)
block_from zero (Nested repeat blocks) text j = absurd j
block_from (suc below) (Nested repeat blocks) text j =
    let k = j.second in
    join (j.front ++ k.front) k.rest (j.parts ∙ ap (λ (t : List ℕ). j.front ++ t) k.parts
    ∙ sym (append_assoc j.front k.front k.rest))
    (join j.front k.front refl j.first (join k.front [] (sym (append-nil k.front)) k.first.1
    ((λ e. omega (arith, e, k.first.0, k.first.1.0)), refl))) (refl, k.second)

canonical : (below : ℕ) (y : Block) → (Parts {A = ℕ} below).canonical (block_parts y) ≡ canon.block y
canonical below (Content repeat bytes) = append-nil (canon.block (Content repeat bytes))
canonical below (Nested repeat blocks) =
    ap (λ (t : List ℕ). canon.word repeat ++ (canon.word (length (block_list blocks)) ++ t))
    (blocks-flat (block_list blocks) ∙ ap canon.blocks_text (blocks_list blocks))

module _ {A : Type 0} where
  pub is_block : (below : ℕ) → IsMade (Parts {A = A} below) (block {A = A} below)
  is_block below = exact (Parts {A = A} below) (block {A = A} below) block_made block_parts (canonical below)
      (block_to below) (block_from below) back (λ r. tt)

  pub nested_splits : (below repeat : ℕ) (bs : List Block)
      → Splits (Parts {A = A} below) (block {A = A} below) (
        (repeat, (length bs, None)),
        bs,
      ) (Nested repeat (blocks_of bs))
  nested_splits below repeat bs =
      subst (λ cs. Splits (Parts {A = A} below) (block {A = A} below) (
        (repeat, (length cs, None)),
        cs,
      ) (Nested repeat (blocks_of bs))) (list_blocks bs)
      (exact_splits (Parts {A = A} below) (block {A = A} below) block_made block_parts (canonical below)
      (block_to below) (block_from below) back (Nested repeat (blocks_of bs)))

  pub content_splits : (below repeat : ℕ) (bytes : List ℕ)
      → Splits head (block {A = A} below) (repeat, (0, Some bytes)) (Content repeat bytes)
  content_splits below repeat bytes = record {
    to = λ text l. (content_to below repeat 0 bytes text l, refl);
    best = λ text l. (text, content_from below repeat bytes text l, omega arith);
  }

  -- ---- their laws

  by_inner : (below : ℕ) → Lawful (inner {A = A} below) → Lawful (block {A = A} below)
  by_inner below law = made_lawful (Parts {A = A} below) (block {A = A} below) (is_block below)
      (behind_lawful head (λ h. times (inner {A = A} below) h.1.0) (λ rest. Unit {0}) head_lawful (λ r. tt)
      (λ h. times_lawful (inner {A = A} below) law (λ r. tt) h.1.0) (λ h rest u. tt)) (λ r. tt)

  pub inner_lawful : (below : ℕ) → Lawful (inner {A = A} below)
  inner_lawful zero = record {
    one = λ x y s t r q l m u v e. absurd l;
    shortest = λ x text l. absurd l;
    bytes = λ x text l. absurd l;
  }
  inner_lawful (suc below) = by_inner below (inner_lawful below)

  pub block_lawful : (below : ℕ) → Lawful (block {A = A} below)
  block_lawful below = inner_lawful (suc below)

  -- what stands in a block are blocks with one level less below them
  pub inner_is : (below : ℕ) → 0 < below → inner {A = A} below ≡ block (below - 1)
  inner_is zero some = absurd (omega (arith, some))
  inner_is (suc below) some = let e : suc below - 1 ≡ below = omega arith in rw e refl

pub block_filled : (below : ℕ) → IsFilled (block {A = ℕ} below)
block_filled below = made_filled (Parts {A = ℕ} below) (block {A = ℕ} below) (is_block below)
    (behind_filled head (λ h. times (inner {A = ℕ} below) h.1.0) (λ rest. Unit {0})
    (both_filled word (behind word (λ n. when (bits_at 1 65536 n ≡ 0) name) (λ rest. Unit {0})) word_filled))

-- zeros make blocks, where some may stand
pub inner_blank : (below : ℕ) → 0 < below → Completes (inner {A = ℕ} below) []
inner_blank zero some = absurd (omega (arith, some))
inner_blank (suc below) some = (
  5,
  Content 0 [],
  join (0 ∷ 0 ∷ []) (0 ∷ 0 ∷ 0 ∷ []) refl (
    omega arith,
    refl,
  ) (join (0 ∷ 0 ∷ []) (0 ∷ []) refl (omega arith, refl) (omega arith, tt, refl)),
)
