-- How long the blocks of records are that were read.
use Rattle.std.proofs.Common.{◌≡◌, ℕ, zero, suc, ◌≤◌, List, length, refl, sym, ap, subst, arith}
use Rattle.std.proofs.lemmas.List.{length-append}
use Rattle.omf_codec.specs.Language.{each}
use Rattle.omf_extended.specs.Body.{RepeatedText, WideBlockText}
use Rattle.omf_record.specs.Expansion.{data_len}
use Rattle.omf_record.specs.Record as record'
use Rattle.omf_record.specs.inside.Blocks.{list_blocks}
use Rattle.omf_record.specs.Record.{Record}
use Rattle.omf_wide.specs.Body.{Body, BodyOf}
use Rattle.omf_wide.specs.Said.{Said, Plain, Fixupp, Modend, Cextdef, Segdef}
use Rattle.omf_plain.specs.Data.{wide_stored_len, all_wide_stored_len}
use Rattle.omf_plain.specs.Given.{repeated_len, said_len}

-- one of the fourteen
pub narrow_len : (r : Record) → data_len r ≤ 65534 → repeated_len r ≤ 65534
unfolding data_len
narrow_len (record'.Theadr _) le = omega arith
narrow_len (record'.Coment _ _ _) le = omega arith
narrow_len (record'.Modend _ _) le = omega arith
narrow_len (record'.Extdef _ _) le = omega arith
narrow_len (record'.Pubdef _ _ _) le = omega arith
narrow_len (record'.Linnum _ _ _) le = omega arith
narrow_len (record'.Lnames _) le = omega arith
narrow_len (record'.Segdef _) le = omega arith
narrow_len (record'.Grpdef _ _) le = omega arith
narrow_len (record'.Fixupp _) le = omega arith
narrow_len (record'.Ledata _ _ _) le = omega arith
narrow_len (record'.Lidata _ _ _) le = le

-- one of 32 bits, or like it, has none
pub wide_len : (kind : ℕ) (s : Said) (body : List ℕ) → BodyOf kind s body → said_len s ≤ 65534
unfolding Body
wide_len kind (Plain (record'.Theadr _)) body l = omega arith
wide_len kind (Plain (record'.Coment _ _ _)) body l = omega arith
wide_len kind (Plain (record'.Modend _ _)) body l = omega arith
wide_len kind (Plain (record'.Extdef _ _)) body l = omega arith
wide_len kind (Plain (record'.Pubdef _ _ _)) body l = omega arith
wide_len kind (Plain (record'.Linnum _ _ _)) body l = omega arith
wide_len kind (Plain (record'.Lnames _)) body l = omega arith
wide_len kind (Plain (record'.Segdef _)) body l = omega arith
wide_len kind (Plain (record'.Grpdef _ _)) body l = omega arith
wide_len kind (Plain (record'.Fixupp _)) body l = omega arith
wide_len kind (Plain (record'.Ledata _ _ _)) body l = omega arith
wide_len kind (Plain (record'.Lidata _ _ _)) body l = absurd l.1
wide_len kind (Fixupp _ _) body l = omega arith
wide_len kind (Modend _ _ _) body l = omega arith
wide_len kind (Cextdef _) body l = omega arith
wide_len kind (Segdef _ _) body l = omega arith

-- ---- repeated data of 32 bits

mutual
  -- a block takes as many bytes as its text has
  block_len : (below : ℕ) (b : record'.Block) (text : List ℕ) → WideBlockText below b text
      → wide_stored_len b ≡ length text
  block_len below (record'.Content repeat bytes) text j =
      let k = j.second in
      omega (
        arith,
        ap length j.parts,
        length-append j.front j.rest,
        ap length j.first.1,
        ap length k.parts,
        length-append k.front k.rest,
        ap length k.first.1,
        ap length k.second.2,
      )
  block_len zero (record'.Nested repeat blocks) text j = absurd j
  block_len (suc below) (record'.Nested repeat blocks) text j =
      let k = j.second in
      omega (
        arith,
        ap length j.parts,
        length-append j.front j.rest,
        ap length j.first.1,
        ap length k.parts,
        length-append k.front k.rest,
        ap length k.first.1.1,
        blocks_len below blocks k.rest k.second,
      )

  blocks_len : (below : ℕ) (bs : record'.Blocks) (text : List ℕ)
      → each (WideBlockText below) (record'.block_list bs) text → all_wide_stored_len bs ≡ length text
  blocks_len below record'.End text l = omega (arith, ap length l)
  blocks_len below (record'.More b bs) text l =
      omega (
        arith,
        ap length l.parts,
        length-append l.front l.rest,
        block_len below b l.front l.first,
        blocks_len below bs l.rest l.second,
      )

-- the blocks of a body take no more bytes than it has
pub wide_repeated_len : (segment offset : ℕ) (bs : List record'.Block) (body : List ℕ) → RepeatedText segment offset bs body
    → all_wide_stored_len (record'.blocks_of bs) ≤ length body
wide_repeated_len segment offset bs body j =
    let k = j.second in
    omega (
      arith,
      ap length j.parts,
      length-append j.front j.rest,
      ap length k.parts,
      length-append k.front k.rest,
      blocks_len 63 (record'.blocks_of bs) k.rest
          (subst (λ cs. each (WideBlockText 63) cs k.rest) (sym (list_blocks bs)) k.second),
    )
