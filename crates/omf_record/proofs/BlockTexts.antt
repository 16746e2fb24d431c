-- How blocks are read and written, from the answers of their heads and of the blocks in them.
use Rattle.std.proofs.Common.{◌≡◌, ℕ, zero, suc, ◌-◌, ◌<◌, ◌⊎◌, inl, inr, List, [], ◌∷◌, ◌++◌, length, map, Option}
use Rattle.std.proofs.Common.{Some, None, Bor, refl, sym, ap, subst, subst₂, ◌∙◌, append_assoc, arith}
use Rattle.std.specs.Prelude.{replicate, Ok, Err}
use Rattle.std.specs.List.{flat_map}
use Rattle.std.proofs.lemmas.List.{length-append, length-map}
use Rattle.omf_codec.specs.declared.codec.ReadError.{ReadError}
use Rattle.omf_codec.specs.declared.codec.ReadError.TheVariants as errors
use Rattle.omf_record.specs.declared.blocks.Block as code
use Rattle.omf_record.specs.Language.{each, Where, Byte, Word}
use Rattle.omf_record.specs.Record.{Block, Content, Nested, blocks_of}
use Rattle.omf_record.specs.View.{block_view}
use Rattle.omf_record.specs.Body.{BlockText}
use Rattle.omf_record.specs.Canonical as canon
use Rattle.omf_codec.specs.inside.Format.{join, Format, IsFree, Lawful, NoneBegins, Completes, Found, Fails, Splits}
use Rattle.omf_codec.specs.inside.Format.{IsOutput, Writes, Written, WritesItem}
use Rattle.omf_codec.specs.inside.FormatLaws.{both}
use Rattle.omf_codec.specs.inside.PrimitiveLaws.{fact_byte}
use Rattle.omf_codec.specs.inside.PrimitiveLaws.{IsZero}
use Rattle.omf_record.specs.inside.Blocks.{times, times_begun, times_blank, head, head_lawful, leaf, list_blocks, block}
use Rattle.omf_record.specs.inside.Blocks.{inner, Parts, content_to, block_to, is_block, nested_splits, content_splits}
use Rattle.omf_record.specs.inside.Blocks.{inner_lawful, inner_is, inner_blank}
use Rattle.omf_codec.proofs.Parts.{first_err, second_err, both_found, carried, made_err, made_found, second_written}
use Rattle.omf_codec.proofs.Parts.{made_written}
use Rattle.omf_codec.proofs.Lists.{SoFar, each_both, none_each}

-- ---- so many texts

module _ {I A : Type 0} (F : Format I A) where
  times_err : Lawful F → IsFree F → Completes F []
      → (n : ℕ) (bytes : List ℕ) (xs : List A) (rest : List ℕ) (e : ReadError) → length xs < n → SoFar F bytes xs rest
      → Fails F rest e → Fails (times F n) bytes e
  times_err law unended blank n bytes xs rest errors.Memory lt s f = tt
  times_err law unended blank n bytes xs rest (errors.Refused bad) lt s f = record {
    front = s.front ++ f.front;
    parts = s.parts ∙ ap (λ (t : List ℕ). s.front ++ t) f.parts ∙ sym (append_assoc s.front f.front bad.now);
    none = none bytes rest s.parts f.none;
    completes =
        inr (go
        (times_begun F (n - length xs - 1) f.front (begun f.completes) (times_blank F blank (n - length xs - 1))));
    stops =
        λ b after more is.
        none ((s.front ++ f.front) ++ b ∷ more) (f.front ++ b ∷ more) (append_assoc s.front f.front (b ∷ more))
        (f.stops b after more is);
  }
    where
      none : (bytes rest : List ℕ) → bytes ≡ s.front ++ rest → NoneBegins F rest → NoneBegins (times F n) bytes
      none bytes rest is h ys text q l u e =
          none_each F law unended xs ys s.front text rest q (inr (omega (arith, lt, l.0))) s.spelled l.1 h (sym is ∙ e)

      begun : (f.front ≡ []) ⊎ Completes F f.front → Completes F f.front
      begun (inl e) = subst (Completes F) (sym e) blank
      begun (inr c) = c

      go : Completes (times F (suc (n - length xs - 1))) f.front → Completes (times F n) (s.front ++ f.front)
      go (zeros, ys, l) = (
        zeros,
        xs ++ ys,
        (
          omega (arith, lt, l.0, length-append xs ys),
          subst (each F.Text (xs ++ ys))
              (sym (append_assoc s.front f.front (replicate zeros 0)))
              (each_both F xs ys s.front (f.front ++ replicate zeros 0) s.spelled l.1),
        ),
      )

-- ---- blocks that are read

module _ (A : Type 0) (below : ℕ) (some : 0 < below) where
  parts_err : (bytes : List ℕ) (e : ReadError) → Fails (Parts {A = A} below) bytes e
      → Fails (block {A = A} below) bytes e
  parts_err = made_err (Parts {A = A} below) (λ r. tt) (block {A = A} below) (is_block below)

  blank : (h : ℕ × (ℕ × Option (List ℕ))) → Completes (times (inner {A = A} below) h.1.0) []
  blank h = times_blank (inner {A = A} below) (inner_blank below some) h.1.0

  pub head_err : (bytes : List ℕ) (e : ReadError) → Fails head bytes e → Fails (block {A = A} below) bytes e
  head_err bytes e f =
      parts_err bytes e
      (first_err head head_lawful (λ r. tt) (λ h. times (inner {A = A} below) h.1.0) (λ rest. Unit {0}) blank bytes e f)

  pub inner_err : (bytes : List ℕ) (h : ℕ × (ℕ × Option (List ℕ))) (rest : List ℕ) (xs : List Block) (after : List ℕ)
      (e : ReadError)
      → Found head bytes h rest → length xs < h.1.0 → SoFar (block {A = A} (below - 1)) rest xs after
      → Fails (block {A = A} (below - 1)) after e → Fails (block {A = A} below) bytes e
  inner_err bytes h rest xs after e f lt s g =
      let is = sym (inner_is {A = A} below some) in
      parts_err bytes e
      (second_err head head_lawful (λ r. tt) (λ h. times (inner {A = A} below) h.1.0) (λ rest. Unit {0}) blank
      (λ h rest u. tt) bytes h rest e f
      (times_err (inner {A = A} below) (inner_lawful below) (λ r. tt) (inner_blank below some) h.1.0 rest xs after e lt
      (subst (λ F. SoFar F rest xs after) is s) (subst (λ F. Fails F after e) is g)))

  pub nested_found : (bytes : List ℕ) (repeat n : ℕ) (rest : List ℕ) (xs : List Block) (after : List ℕ)
      → Found head bytes (repeat, (n, None)) rest → length xs ≡ n → SoFar (block {A = A} (below - 1)) rest xs after
      → Found (block {A = A} below) bytes (Nested repeat (blocks_of xs)) after
  nested_found bytes repeat n rest xs after f len s =
      let t = subst (λ F. SoFar F rest xs after) (sym (inner_is {A = A} below some)) s in
      let h : ℕ × (ℕ × Option (List ℕ)) = (repeat, (n, None)) in
      made_found (Parts {A = A} below) (λ r. tt) (block {A = A} below) (is_block below) bytes (h, xs)
      (Nested repeat (blocks_of xs)) after (block_to below (h, xs))
      (both_found head head_lawful (λ r. tt) (λ h. times (inner {A = A} below) h.1.0) (λ rest. Unit {0}) bytes h rest xs
      after f (record { front = t.front; parts = t.parts; spelled = (len, t.spelled); ends = tt }) (λ e. tt))

pub content_found : (A : Type 0) (below : ℕ) (bytes : List ℕ) (repeat n : ℕ) (content rest : List ℕ)
    → Found head bytes (repeat, (n, Some content)) rest
    → Found (block {A = A} below) bytes (Content repeat content) rest
content_found A below bytes repeat n content rest f = record {
  front = f.front;
  parts = f.parts;
  spelled = content_to below repeat n content f.front f.spelled;
  ends = tt;
}

-- two bytes 00
zeros_word : (n m : ℕ) (text : List ℕ) → (both (fact_byte IsZero) (fact_byte IsZero)).Text (n, m) text → Word 0 text
zeros_word n m text j = (
  omega arith,
  j.parts ∙ ap (λ (t : List ℕ). t ++ j.rest) (j.first.1.1 ∙ ap (λ n. n ∷ []) j.first.0)
      ∙ ap (λ (t : List ℕ). 0 ∷ t) (j.second.1.1 ∙ ap (λ n. n ∷ []) j.second.0),
)

leaf_to : (x : ℕ × ((ℕ × ℕ) × List ℕ)) (text : List ℕ) → leaf.Text x text → BlockText 0 (Content x.0 x.1.1) text
leaf_to x text j =
    let k = j.second in
    join j.front j.rest j.parts j.first
    (join k.front k.rest k.parts (zeros_word x.1.0.0 x.1.0.1 k.front k.first) k.second)

leaf_from : (y : Block) (text : List ℕ) → BlockText 0 y text → (x : ℕ × ((ℕ × ℕ) × List ℕ)) × leaf.Text x text
leaf_from (Content repeat bytes) text j =
    let k = j.second in
    let zero : Where (0 ≡ 0) (Byte 0) (0 ∷ []) = (refl, (omega arith, refl)) in (
      (repeat, ((0, 0), bytes)),
      join j.front j.rest j.parts j.first
          (join k.front k.rest k.parts (join (0 ∷ []) (0 ∷ []) k.first.1 zero zero) k.second),
    )
leaf_from (Nested repeat blocks) text j = absurd j

pub leaf_found : (A : Type 0) (bytes : List ℕ) (x : ℕ × ((ℕ × ℕ) × List ℕ)) (rest : List ℕ) → Found leaf bytes x rest
    → Found (block {A = A} 0) bytes (Content x.0 x.1.1) rest
leaf_found A bytes x rest f =
    record { front = f.front; parts = f.parts; spelled = leaf_to x f.front f.spelled; ends = tt }

pub leaf_err : (A : Type 0) (bytes : List ℕ) (e : ReadError) → Fails leaf bytes e → Fails (block {A = A} 0) bytes e
leaf_err A =
    carried leaf (block {A = A} 0)
    (λ bytes h y text rest m u e. let (x, l) = leaf_from y text m in h x text rest l tt e)
    (λ front (n, x, l). (n, Content x.0 x.1.1, leaf_to x (front ++ replicate n 0) l))

-- ---- blocks that are written

module _ {S : Type 0} (Takes : S → List ℕ → S → Type 0) (Refuses : S → ℕ → S → Type 0) (output : IsOutput Takes Refuses)
    (A : Type 0) (below repeat : ℕ) where
  pub content_written : (bytes : Bor (List ℕ)) (y : code.Block A) (old new : S) (r : Written)
      → block_view y ≡ Content repeat bytes.now
      → WritesItem Takes Refuses head (repeat, (0, Some bytes)) old new r
      → WritesItem Takes Refuses (block {A = A} below) y old new r
  content_written bytes y old new r is w =
      made_written Takes Refuses output head (block {A = A} below) (repeat, (0, Some bytes)) y old new r
      (subst (Splits head (block {A = A} below) (repeat, (0, Some bytes.now))) (sym is)
      (content_splits below repeat bytes.now)) w

  -- a block whose head is refused
  pub head_fails : (bs : List Block) (old new : S)
      → ((text : List ℕ) → head.Text (repeat, (length bs, None)) text → Refuses old (length text) new) → (text : List ℕ)
      → BlockText below (Nested repeat (blocks_of bs)) text → Refuses old (length text) new
  head_fails bs old new h text l =
      let (short, j, le) = (nested_splits {A = A} below repeat bs).best text l in
      output.longer old new (length j.front) (length text)
      (omega (arith, le, ap length j.parts, length-append j.front j.rest)) (h j.front j.first)

  pub nested_written : 0 < below → (n : ℕ) (xs : List (code.Block A)) (y : code.Block A) (old mid new : S) (r : Written)
      → n ≡ length xs → block_view y ≡ Nested repeat (blocks_of (map block_view xs))
      → head.Text (repeat, (n, None)) (head.canonical (repeat, (n, None)))
      × Takes old (head.canonical (repeat, (n, None))) mid
      → Writes Takes Refuses (each (BlockText (below - 1)) (map block_view xs))
      (flat_map canon.block (map block_view xs)) mid new r → WritesItem Takes Refuses (block {A = A} below) y old new r
  nested_written some n xs y old mid new r len is f w =
      let ys = map block_view xs in
      let e : length ys ≡ n = omega (arith, len, length-map xs block_view) in
      made_written Takes Refuses output (Parts {A = A} below) (block {A = A} below) ((repeat, (n, None)), xs) y old new
      r (subst₂ (λ m b. Splits (Parts {A = A} below) (block {A = A} below) ((repeat, (m, None)), ys) b) e (sym is)
      (nested_splits below repeat ys))
      (second_written Takes Refuses output head head_lawful (repeat, (n, None))
      ((times (inner {A = A} below) n).Text ys) (flat_map canon.block ys) old mid new r f
      (inner_written ys n e some r w))
    where
      inner_written : (ys : List Block) (n : ℕ) → length ys ≡ n → 0 < below → (r : Written)
          → Writes Takes Refuses (each (BlockText (below - 1)) ys) (flat_map canon.block ys) mid new r
          → Writes Takes Refuses ((times (inner {A = A} below) n).Text ys) (flat_map canon.block ys) mid new r
      inner_written ys n e some (Ok u) w =
          ((e, subst (λ F. each F.Text ys (flat_map canon.block ys)) (sym (inner_is {A = A} below some)) w.0), w.1)
      inner_written ys n e some (Err x) w =
          λ text l. w text (subst (λ F. each F.Text ys text) (inner_is {A = A} below some) l.1)

pub nested_fits : (below repeat : ℕ) (bs : List Block) (text : List ℕ)
    → BlockText below (Nested repeat (blocks_of bs)) text → (0 < below) × (length bs < 65536)
nested_fits zero repeat bs text l = absurd l
nested_fits (suc below) repeat bs text l = (omega arith, omega (arith, l.second.first.1.0, ap length (list_blocks bs)))
