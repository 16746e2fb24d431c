-- How blocks are read, from the answers of their heads and of the blocks in them.
use Rattle.std.proofs.Common.{◌≡◌, ℕ, suc, ◌-◌, ◌<◌, ◌≤◌, ◌⊎◌, inl, inr, List, [], ◌∷◌, ◌++◌, length, Bor, Option}
use Rattle.std.proofs.Common.{Some, None, refl, sym, ap, subst, ◌∙◌, append_assoc, append-nil, arith}
use Rattle.std.specs.Prelude.{replicate, is_some, IsTrue, IsFalse}
use Rattle.std.proofs.lemmas.List.{length-append}
use Rattle.omf_codec.proofs.Lists.{SoFar, each_both, none_each, list_err}
use Rattle.omf_codec.proofs.Parts.{first_err, second_err, both_found, carried, made_err, made_found}
use Rattle.omf_codec.specs.Language.{IsBytes, each, Where, Byte, Word}
use Rattle.omf_codec.specs.declared.codec.ReadError.{ReadError}
use Rattle.omf_codec.specs.declared.codec.ReadError.TheVariants as errors
use Rattle.omf_codec.specs.inside.Format.{join, Format, IsFree, Lawful, NoneBegins, Completes, Found, Fails}
use Rattle.omf_codec.specs.inside.FormatLaws.{both, to_end, each_bytes}
use Rattle.omf_codec.specs.inside.PrimitiveLaws.{fact_byte, IsZero}
use Rattle.omf_record.specs.Record.{Block, Content, Nested, blocks_of}
use Rattle.omf_record.specs.inside.Blocks.{times, times_begun, times_blank}
use Rattle.omf_codec.proofs.Faults.{refused}
use Rattle.omf_codec.specs.inside.Format.{Refused}
use Rattle.omf_codec.specs.inside.Numbers.{double}
use Rattle.omf_codec.specs.inside.PrimitiveLaws.{index}
use Rattle.omf_extended.proofs.Faults.{body_fault}
use Rattle.omf_extended.proofs.Layouts.{lidata_body}
use Rattle.omf_extended.specs.Answer.{Stands}
use Rattle.omf_extended.specs.Body.{RepeatedText, WideBlockText}
use Rattle.omf_extended.specs.declared.fault.ExtendedFault.TheVariants.{Body}
use Rattle.omf_extended.specs.inside.Repeated.{lidata_blank, block_filled}
use Rattle.omf_extended.specs.inside.Repeated.{head, head_lawful, leaf, block, inner, Parts, content_to, block_to}
use Rattle.omf_extended.specs.inside.Repeated.{is_block, inner_lawful, inner_is, inner_blank, block_lawful, content}

-- ---- so many texts

module _ {I A : Type 0} (F : Format I A) where
  times_err : Lawful F → IsFree F → Completes F []
      → (n : ℕ) (bytes : List ℕ) (xs : List A) (rest : List ℕ) (e : ReadError) → length xs < n → SoFar F bytes xs rest
      → Fails F rest e → Fails (times F n) bytes e
  times_err law unended blank n bytes xs rest errors.Memory lt s f = tt
  times_err law unended blank n bytes xs rest (errors.Refused bad) lt s f = record {
    front = s.front ++ f.front;
    parts = s.parts ∙ ap (λ (t : List ℕ). s.front ++ t) f.parts ∙ sym (append_assoc s.front f.front bad.now);
    none = none bytes rest s.parts f.none;
    completes =
        inr (go
        (times_begun F (n - length xs - 1) f.front (begun f.completes) (times_blank F blank (n - length xs - 1))));
    stops =
        λ b after more is.
        none ((s.front ++ f.front) ++ b ∷ more) (f.front ++ b ∷ more) (append_assoc s.front f.front (b ∷ more))
        (f.stops b after more is);
  }
    where
      none : (bytes rest : List ℕ) → bytes ≡ s.front ++ rest → NoneBegins F rest → NoneBegins (times F n) bytes
      none bytes rest is h ys text q l u e =
          none_each F law unended xs ys s.front text rest q (inr (omega (arith, lt, l.0))) s.spelled l.1 h (sym is ∙ e)

      begun : (f.front ≡ []) ⊎ Completes F f.front → Completes F f.front
      begun (inl e) = subst (Completes F) (sym e) blank
      begun (inr c) = c

      go : Completes (times F (suc (n - length xs - 1))) f.front → Completes (times F n) (s.front ++ f.front)
      go (zeros, ys, l) = (
        zeros,
        xs ++ ys,
        (
          omega (arith, lt, l.0, length-append xs ys),
          subst (each F.Text (xs ++ ys))
              (sym (append_assoc s.front f.front (replicate zeros 0)))
              (each_both F xs ys s.front (f.front ++ replicate zeros 0) s.spelled l.1),
        ),
      )

-- ---- blocks that are read

module _ (below : ℕ) (some : 0 < below) where
  parts_err : (bytes : List ℕ) (e : ReadError) → Fails (Parts below) bytes e
      → Fails (block below) bytes e
  parts_err = made_err (Parts below) (λ r. tt) (block below) (is_block below)

  blank : (h : ℕ × (ℕ × Option (List ℕ))) → Completes (times (inner below) h.1.0) []
  blank h = times_blank (inner below) (inner_blank below some) h.1.0

  pub head_err : (bytes : List ℕ) (e : ReadError) → Fails head bytes e → Fails (block below) bytes e
  head_err bytes e f =
      parts_err bytes e
      (first_err head head_lawful (λ r. tt) (λ h. times (inner below) h.1.0) (λ rest. Unit {0}) blank bytes e f)

  pub inner_err : (bytes : List ℕ) (h : ℕ × (ℕ × Option (List ℕ))) (rest : List ℕ) (xs : List Block) (after : List ℕ)
      (e : ReadError)
      → Found head bytes h rest → length xs < h.1.0 → SoFar (block (below - 1)) rest xs after
      → Fails (block (below - 1)) after e → Fails (block below) bytes e
  inner_err bytes h rest xs after e f lt s g =
      let is = sym (inner_is below some) in
      parts_err bytes e
      (second_err head head_lawful (λ r. tt) (λ h. times (inner below) h.1.0) (λ rest. Unit {0}) blank
      (λ h rest u. tt) bytes h rest e f
      (times_err (inner below) (inner_lawful below) (λ r. tt) (inner_blank below some) h.1.0 rest xs after e lt
      (subst (λ F. SoFar F rest xs after) is s) (subst (λ F. Fails F after e) is g)))

  pub nested_found : (bytes : List ℕ) (repeat n : ℕ) (rest : List ℕ) (xs : List Block) (after : List ℕ)
      → Found head bytes (repeat, (n, None)) rest → length xs ≡ n → SoFar (block (below - 1)) rest xs after
      → Found (block below) bytes (Nested repeat (blocks_of xs)) after
  nested_found bytes repeat n rest xs after f len s =
      let t = subst (λ F. SoFar F rest xs after) (sym (inner_is below some)) s in
      let h : ℕ × (ℕ × Option (List ℕ)) = (repeat, (n, None)) in
      made_found (Parts below) (λ r. tt) (block below) (is_block below) bytes (h, xs)
      (Nested repeat (blocks_of xs)) after (block_to below (h, xs))
      (both_found head head_lawful (λ r. tt) (λ h. times (inner below) h.1.0) (λ rest. Unit {0}) bytes h rest xs
      after f (record { front = t.front; parts = t.parts; spelled = (len, t.spelled); ends = tt }) (λ e. tt))

pub content_found : (below : ℕ) (bytes : List ℕ) (repeat n : ℕ) (content rest : List ℕ)
    → Found head bytes (repeat, (n, Some content)) rest
    → Found (block below) bytes (Content repeat content) rest
content_found below bytes repeat n content rest f = record {
  front = f.front;
  parts = f.parts;
  spelled = content_to below repeat n content f.front f.spelled;
  ends = tt;
}

-- two bytes 00
zeros_word : (n m : ℕ) (text : List ℕ) → (both (fact_byte IsZero) (fact_byte IsZero)).Text (n, m) text → Word 0 text
zeros_word n m text j = (
  omega arith,
  j.parts ∙ ap (λ (t : List ℕ). t ++ j.rest) (j.first.1.1 ∙ ap (λ n. n ∷ []) j.first.0)
      ∙ ap (λ (t : List ℕ). 0 ∷ t) (j.second.1.1 ∙ ap (λ n. n ∷ []) j.second.0),
)

leaf_to : (x : ℕ × ((ℕ × ℕ) × List ℕ)) (text : List ℕ) → leaf.Text x text → WideBlockText 0 (Content x.0 x.1.1) text
leaf_to x text j =
    let k = j.second in
    join j.front j.rest j.parts j.first
    (join k.front k.rest k.parts (zeros_word x.1.0.0 x.1.0.1 k.front k.first) k.second)

leaf_from : (y : Block) (text : List ℕ) → WideBlockText 0 y text → (x : ℕ × ((ℕ × ℕ) × List ℕ)) × leaf.Text x text
leaf_from (Content repeat bytes) text j =
    let k = j.second in
    let zero : Where (0 ≡ 0) (Byte 0) (0 ∷ []) = (refl, (omega arith, refl)) in (
      (repeat, ((0, 0), bytes)),
      join j.front j.rest j.parts j.first
          (join k.front k.rest k.parts (join (0 ∷ []) (0 ∷ []) k.first.1 zero zero) k.second),
    )
leaf_from (Nested repeat blocks) text j = absurd j

pub leaf_found : (bytes : List ℕ) (x : ℕ × ((ℕ × ℕ) × List ℕ)) (rest : List ℕ) → Found leaf bytes x rest
    → Found (block 0) bytes (Content x.0 x.1.1) rest
leaf_found bytes x rest f =
    record { front = f.front; parts = f.parts; spelled = leaf_to x f.front f.spelled; ends = tt }

pub leaf_err : (bytes : List ℕ) (e : ReadError) → Fails leaf bytes e → Fails (block 0) bytes e
leaf_err =
    carried leaf (block 0)
    (λ bytes h y text rest m u e. let (x, l) = leaf_from y text m in h x text rest l tt e)
    (λ front (n, x, l). (n, Content x.0 x.1.1, leaf_to x (front ++ replicate n 0) l))

-- ---- blocks to the end

-- a block has bytes
pub behind_shorter : (bytes : List ℕ) (b : Block) (rest : List ℕ) → Found (block 63) bytes b rest
    → length rest < length bytes
behind_shorter bytes b rest f =
    let some = block_filled 63 b f.front f.spelled in
    omega (arith, some, ap length f.parts, length-append f.front rest)

-- the blocks go up to the end
-- the bytes are these blocks
pub content_blocks : (bytes : List ℕ) (xs : List Block) (rest : List ℕ) → SoFar (block 63) bytes xs rest → rest ≡ []
    → each (WideBlockText 63) xs bytes
content_blocks bytes xs rest s e =
    subst (each (WideBlockText 63) xs) (sym (s.parts ∙ ap (λ (t : List ℕ). s.front ++ t) e ∙ append-nil s.front))
    s.spelled

pub content_done : (bytes : List ℕ) (xs : List Block) (rest : List ℕ) → SoFar (block 63) bytes xs rest → rest ≡ []
    → Found content bytes bytes rest
content_done bytes xs rest s e =
    let whole : bytes ≡ s.front = s.parts ∙ ap (λ (t : List ℕ). s.front ++ t) e ∙ append-nil s.front in
    record {
      front = bytes;
      parts = sym (ap (λ (t : List ℕ). bytes ++ t) e ∙ append-nil bytes);
      spelled = (
        (xs, subst (each (WideBlockText 63) xs) (sym whole) s.spelled),
        (subst IsBytes (sym whole) (each_bytes (block 63) (block_lawful 63) xs s.front s.spelled), refl),
      );
      ends = e;
    }

abbrev blocks : Format (List Block) (List Block)
blocks = to_end (block 63) (λ xs. xs)

-- what fails to be blocks fails to be their bytes
pub content_err : (bytes : List ℕ) (xs : List Block) (rest : List ℕ) (e : ReadError) → 0 < length rest
    → SoFar (block 63) bytes xs rest → Fails (block 63) rest e → Fails content bytes e
content_err bytes xs rest e some s f =
    carried blocks content
    (λ bytes h y text rest m u e. h m.0.0 text rest (rw m.1.1 m.0.1) u e)
    (λ front (n, ys, l). (
      n,
      front ++ replicate n 0,
      ((ys, l), (each_bytes (block 63) (block_lawful 63) ys (front ++ replicate n 0) l, refl)),
    ))
    bytes e (list_err (block 63) (λ xs. xs) (block_lawful 63) (λ r. tt) bytes xs rest e some s f)

-- ---- the whole body

abbrev Lidata : Format (ℕ × (ℕ × Bor (List ℕ))) (ℕ × (ℕ × List ℕ))
Lidata = both index (both double content)

pub lidata_whole : (bytes : List ℕ) (x : ℕ × (ℕ × List ℕ)) (rest : List ℕ) → Found Lidata bytes x rest
    → Lidata.Text x bytes
lidata_whole bytes x rest f =
    subst (Lidata.Text x) (sym (f.parts ∙ ap (λ (t : List ℕ). f.front ++ t) f.ends ∙ append-nil f.front)) f.spelled

pub lidata_fault : (bytes bad : List ℕ) → Refused Lidata bytes bad
    → Stands 0xA3 bytes (Body (length bytes - length bad))
lidata_fault bytes bad f =
    body_fault Lidata 0xA3 lidata_body bytes (length bytes - length bad)
    (refused Lidata lidata_body.ending lidata_blank bytes bad f)

-- the blocks of the content are those of the body
pub repeated_whole : (bytes : List ℕ) (segment offset : ℕ) (content : List ℕ) (xs : List Block)
    → Lidata.Text (segment, (offset, content)) bytes → each (WideBlockText 63) xs content
    → RepeatedText segment offset xs bytes
repeated_whole bytes segment offset content xs j e =
    let k = j.second in
    join j.front j.rest j.parts j.first
    (join k.front k.rest k.parts k.first (subst (each (WideBlockText 63) xs) (sym k.second.1.1) e))

pub refused_within : (bytes bad : List ℕ) → Refused Lidata bytes bad → length bad ≤ length bytes
refused_within bytes bad f = omega (arith, ap length f.parts, length-append f.front bad)
