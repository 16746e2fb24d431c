-- The blocks of a LIDATA of 32 bits: their parts and their laws, level by level.
use Rattle.std.proofs.Common.{◌≡◌, ℕ, zero, suc, ◌-◌, ◌<◌, List, [], ◌∷◌, ◌++◌, length, Option, Some, None}
use Rattle.std.proofs.Common.{true}
use Rattle.std.proofs.Common.{Bor, refl, sym, ap, subst, ◌∙◌, append_assoc, append-nil, arith}
use Rattle.std.specs.Prelude.{Result, Ok, Err}
use Rattle.std.specs.List.{flat_map}
use Rattle.std.proofs.lemmas.List.Concat.{flat_map-cons}
use Rattle.omf_codec.specs.Language.{IsBytes, each, Bytes, Word, little}
use Rattle.omf_codec.specs.declared.codec.ReadError.{ReadError}
use Rattle.omf_codec.specs.inside.Canonical as canon
use Rattle.omf_codec.specs.inside.Format.{join, Format, Lawful, Completes, IsFilled, IsMade, Found, Fails, free}
use Rattle.omf_codec.specs.inside.FormatLaws.{both, both_lawful, both_filled, both_blank, behind, behind_lawful}
use Rattle.omf_codec.specs.inside.FormatLaws.{behind_filled, when, when_lawful, bits_at, made_lawful, made_filled}
use Rattle.omf_codec.specs.inside.FormatLaws.{exact}
use Rattle.omf_codec.specs.inside.Numbers.{double, number_lawful, number_filled, number_blank}
use Rattle.omf_codec.specs.inside.PrimitiveLaws.{word, word_lawful, name, name_lawful, fact_byte, IsZero, index}
use Rattle.omf_codec.specs.inside.PrimitiveLaws.{index_blank}
use Rattle.omf_record.specs.Record.{Block, Content, Nested, Blocks, End, More, block_list, blocks_of}
use Rattle.omf_record.specs.inside.Blocks.{times, times_lawful, counted, list_blocks}
use Rattle.omf_extended.specs.Body.{WideBlockText, AreBlocks}

-- ---- the shortest text of a block

abbrev mutual
  pub block_text : Block → List ℕ
  block_text (Content repeat bytes) = little 4 repeat ++ (canon.word 0 ++ canon.name bytes)
  block_text (Nested repeat blocks) =
      little 4 repeat ++ (canon.word (length (block_list blocks)) ++ blocks_text blocks)

  pub blocks_text : Blocks → List ℕ
  blocks_text End = []
  blocks_text (More b bs) = block_text b ++ blocks_text bs

-- ---- the parts of a block

-- the repeat count, the count of the blocks in it, and the content where there are none
abbrev pub head : Format (ℕ × (ℕ × Option (Bor (List ℕ)))) (ℕ × (ℕ × Option (List ℕ)))
head = both double (behind word (λ n. when (bits_at 1 65536 n ≡ 0) name) (λ rest. Unit {0}))

pub head_lawful : Lawful head
head_lawful = both_lawful double (number_lawful true) (λ r. tt)
    (behind word (λ n. when (bits_at 1 65536 n ≡ 0) name) (λ rest. Unit {0}))
    (behind_lawful word (λ n. when (bits_at 1 65536 n ≡ 0) name) (λ rest. Unit {0}) word_lawful (λ r. tt)
    (λ n. when_lawful (bits_at 1 65536 n ≡ 0) name name_lawful (λ r. tt)) (λ n rest u. tt))

-- the parts of a block that none may stand in
abbrev pub leaf : Format (ℕ × ((ℕ × ℕ) × Bor (List ℕ))) (ℕ × ((ℕ × ℕ) × List ℕ))
leaf = both double (both (both (fact_byte IsZero) (fact_byte IsZero)) name)

-- a text of a block that stands in one with so many levels below it
abbrev pub InnerText : ℕ → Block → List ℕ → Type 0
InnerText zero b text = ⊥
InnerText (suc below) b text = WideBlockText below b text

-- a block that may have blocks on so many levels below it
abbrev pub block : ℕ → Format Block Block
block below = free (λ b. b) (WideBlockText below) block_text

-- a block in such a block
abbrev pub inner : ℕ → Format Block Block
inner below = free (λ b. b) (InnerText below) block_text

-- what such a block is made of: its head, and as many blocks as that says
abbrev pub Parts : ℕ → Format ((ℕ × (ℕ × Option (Bor (List ℕ)))) × List Block) ((ℕ × (ℕ × Option (List ℕ)))
    × List Block)
Parts below = behind head (λ h. times (inner below) h.1.0) (λ rest. Unit {0})

blocks_list : (bs : Blocks) → blocks_of (block_list bs) ≡ bs
blocks_list End = refl
blocks_list (More b bs) = ap (More b) (blocks_list bs)

pub blocks-flat : (bs : List Block) → flat_map block_text bs ≡ blocks_text (blocks_of bs)
blocks-flat [] = refl
blocks-flat (b ∷ bs) = flat_map-cons block_text b bs ∙ ap (λ (t : List ℕ). block_text b ++ t) (blocks-flat bs)

-- the block of these parts
abbrev pub block_made : (ℕ × (ℕ × Option (List ℕ))) × List Block → Block
block_made ((repeat, (n, Some bytes)), bs) = Content repeat bytes
block_made ((repeat, (n, None)), bs) = Nested repeat (blocks_of bs)

-- the parts of a block
abbrev pub block_parts : Block → (ℕ × (ℕ × Option (List ℕ))) × List Block
block_parts (Content repeat bytes) = ((repeat, (0, Some bytes)), [])
block_parts (Nested repeat blocks) = ((repeat, (length (block_list blocks), None)), block_list blocks)

back : (y : Block) → block_made (block_parts y) ≡ y
back (Content repeat bytes) = refl
back (Nested repeat blocks) = ap (Nested repeat) (blocks_list blocks)

pub content_to : (below repeat n : ℕ) (bytes text : List ℕ) → head.Text (repeat, (n, Some bytes)) text
    → WideBlockText below (Content repeat bytes) text
content_to below repeat n bytes text j =
    let k = j.second in
    let zero : n ≡ 0 = omega (arith, k.second.0, k.first.0) in
    join j.front j.rest j.parts j.first (join k.front k.rest k.parts
    (subst (λ m. Word m k.front) zero k.first) k.second.1)

content_from : (below repeat : ℕ) (bytes text : List ℕ) → WideBlockText below (Content repeat bytes) text
    → head.Text (repeat, (0, Some bytes)) text
content_from below repeat bytes text j =
    let k = j.second in
    join j.front j.rest j.parts j.first (join k.front k.rest k.parts k.first (refl, k.second))

pub block_to : (below : ℕ) (x : (ℕ × (ℕ × Option (List ℕ))) × List Block) (text : List ℕ)
    → (Parts below).Text x text → WideBlockText below (block_made x) text
block_to below ((repeat, (n, Some bytes)), b ∷ bs) text j =
    absurd (omega (arith, j.first.second.second.0, j.first.second.first.0, j.second.0))
block_to below ((repeat, (n, Some bytes)), []) text j =
    subst (WideBlockText below (Content repeat bytes))
    (sym (j.parts ∙ ap (λ (t : List ℕ). j.front ++ t) j.second.1 ∙ append-nil j.front))
    (content_to below repeat n bytes j.front j.first)
block_to zero ((repeat, (n, None)), []) text j = absurd (omega (arith, counted n j.first.second.second.0, j.second.0))
block_to zero ((repeat, (n, None)), b ∷ bs) text j = absurd j.second.1.first
block_to (suc below) ((repeat, (n, None)), bs) text j =
    let i = j.first in
    let k = i.second in
    let len : n ≡ length (block_list (blocks_of bs)) = rw (list_blocks bs) (sym j.second.0) in
    let bare : i.rest ≡ k.front = k.parts ∙ ap (λ (t : List ℕ). k.front ++ t) k.second.1 ∙ append-nil k.front in
    join i.front (k.front ++ j.rest) (j.parts
    ∙ ap (λ (t : List ℕ). t ++ j.rest) (i.parts ∙ ap (λ (t : List ℕ). i.front ++ t) bare)
    ∙ append_assoc i.front k.front j.rest) i.first
    (join k.front j.rest refl (
      subst (λ m. 0 < m) len (counted n k.second.0),
      subst (λ m. Word m k.front) len k.first,
    )
    (subst (λ cs. each (WideBlockText below) cs j.rest) (sym (list_blocks bs)) j.second.1))

block_from : (below : ℕ) (y : Block) (text : List ℕ) → WideBlockText below y text
    → (Parts below).Text (block_parts y) text
block_from below (Content repeat bytes) text j =
    join text [] (sym (append-nil text)) (content_from below repeat bytes text j) (refl, refl)
block_from zero (Nested repeat blocks) text j = absurd j
block_from (suc below) (Nested repeat blocks) text j =
    let k = j.second in
    join (j.front ++ k.front) k.rest (j.parts ∙ ap (λ (t : List ℕ). j.front ++ t) k.parts
    ∙ sym (append_assoc j.front k.front k.rest))
    (join j.front k.front refl j.first (join k.front [] (sym (append-nil k.front)) k.first.1
    ((λ e. omega (arith, e, k.first.0, k.first.1.0)), refl))) (refl, k.second)

canonical : (below : ℕ) (y : Block) → (Parts below).canonical (block_parts y) ≡ block_text y
canonical below (Content repeat bytes) = append-nil (block_text (Content repeat bytes))
canonical below (Nested repeat blocks) =
    ap (λ (t : List ℕ). little 4 repeat ++ (canon.word (length (block_list blocks)) ++ t))
    (blocks-flat (block_list blocks) ∙ ap blocks_text (blocks_list blocks))

pub is_block : (below : ℕ) → IsMade (Parts below) (block below)
is_block below = exact (Parts below) (block below) block_made block_parts (canonical below)
    (block_to below) (block_from below) back (λ r. tt)

-- ---- their laws

by_inner : (below : ℕ) → Lawful (inner below) → Lawful (block below)
by_inner below law = made_lawful (Parts below) (block below) (is_block below)
    (behind_lawful head (λ h. times (inner below) h.1.0) (λ rest. Unit {0}) head_lawful (λ r. tt)
    (λ h. times_lawful (inner below) law (λ r. tt) h.1.0) (λ h rest u. tt)) (λ r. tt)

pub inner_lawful : (below : ℕ) → Lawful (inner below)
inner_lawful zero = record {
  one = λ x y s t r q l m u v e. absurd l;
  shortest = λ x text l. absurd l;
  bytes = λ x text l. absurd l;
}
inner_lawful (suc below) = by_inner below (inner_lawful below)

pub block_lawful : (below : ℕ) → Lawful (block below)
block_lawful below = inner_lawful (suc below)

-- what stands in a block are blocks with one level less below them
pub inner_is : (below : ℕ) → 0 < below → inner below ≡ block (below - 1)
inner_is zero some = absurd (omega (arith, some))
inner_is (suc below) some = let e : suc below - 1 ≡ below = omega arith in rw e refl

pub block_filled : (below : ℕ) → IsFilled (block below)
block_filled below = made_filled (Parts below) (block below) (is_block below)
    (behind_filled head (λ h. times (inner below) h.1.0) (λ rest. Unit {0})
    (both_filled double (behind word (λ n. when (bits_at 1 65536 n ≡ 0) name) (λ rest. Unit {0})) (number_filled true)))

-- zeros make blocks, where some may stand
pub inner_blank : (below : ℕ) → 0 < below → Completes (inner below) []
inner_blank zero some = absurd (omega (arith, some))
inner_blank (suc below) some = (
  7,
  Content 0 [],
  join (0 ∷ 0 ∷ 0 ∷ 0 ∷ []) (0 ∷ 0 ∷ 0 ∷ []) refl (
    omega arith,
    refl,
  ) (join (0 ∷ 0 ∷ []) (0 ∷ []) refl (omega arith, refl) (omega arith, tt, refl)),
)

-- ---- a content, as bytes that are whole blocks

-- bytes that are blocks to the end
abbrev pub content : Format (Bor (List ℕ)) (List ℕ)
content = record {
  view = λ x. x.now;
  Text = λ s text. AreBlocks s × Bytes s text;
  canonical = λ s. s;
  Ends = λ rest. rest ≡ [];
  number = λ x. 0;
}

pub content_lawful : Lawful content
content_lawful = record {
  one = λ x y s t r q l m u v e.
      let same : s ≡ t = sym (append-nil s) ∙ ap (λ (k : List ℕ). s ++ k) (sym u) ∙ e ∙ ap (λ (k : List ℕ). t ++ k) v
      ∙ append-nil t in
      (sym l.1.1 ∙ same ∙ m.1.1, same);
  shortest = λ x text l. ((l.0, (l.1.0, refl)), omega (arith, ap length l.1.1));
  bytes = λ x text l. subst IsBytes (sym l.1.1) l.1.0;
}

pub content_blank : Completes content []
content_blank = (0, [], (([], refl), (tt, refl)))

pub placed_blank : Completes (both double content) []
placed_blank = both_blank double content (number_blank true) content_blank

pub lidata_blank : Completes (both index (both double content)) []
lidata_blank = both_blank index (both double content) index_blank placed_blank
