use Rattle.std.proofs.Common.{◌∙◌, ℕ, ap, arith, set, get_or}
use Rattle.std.proofs.lemmas.List.{length-set}
use Rattle.omf_image.proofs.Copying.{copied_next}
use Rattle.omf_image.proofs.repeated.stored_bytes.Goals as goal

pub loop-i-preserved : goal.loop-i-preserved
loop-i-preserved g c =
    let old = c.loop-i.stored.items in
    let byte = get_or c.args.bytes.now c.loop-i.i 0 in
    let end = c.requires.end c.loop-i.i 0 c.loop-i-test.true in
    record {
      sized = length-set old c.from.result byte ∙ c.loop-i.invariant.sized;
      copied = λ k l.
          copied_next c.args.places.now c.args.bytes.now old (set old c.from.result byte) c.loop-i.i k
          c.requires.lengths c.requires.copies c.loop-i-test.true
          (omega (arith, end, c.loop-i.invariant.sized)) (ap (λ (p : ℕ). set old p byte) c.from.ensures)
          (c.loop-i.invariant.copied k) l;
    }
