use Rattle.std.proofs.Common.{◌≡◌, ◌<◌, ◌∙◌, ◌++◌, ◌/◌, ◌+◌, ◌-◌, length, map, drop, arith, refl, sym, ap, append-nil}
use Rattle.std.proofs.Common.{length-set}
use Rattle.std.specs.Int.Digits.{digits_of}
use Rattle.std.proofs.lemmas.Int.Digits.{length-digits_of-le, length-digits_of_step}
use Rattle.omf_text.specs.Printing.{digit}
use Rattle.omf_text.proofs.PrintLemmas.{digit_set, no_digits, padded, zeros_kept}
use Rattle.omf_text.proofs.print.Hexadecimal.new.Goals as goal

pub loop-rest-init : goal.loop-rest-init
loop-rest-init c = record {
  all = refl;
  within = omega arith;
  room = length-digits_of-le 16 16 c.args.number (omega arith) (omega arith);
  zeros = refl;
  written = sym (append-nil (map digit (digits_of 16 c.args.number)));
}

pub overflow_sub-start : goal.overflow_sub-start
overflow_sub-start c =
    let step = length-digits_of_step 16 c.loop-rest.rest (omega arith) c.loop-rest-test.true in
    omega (arith, step, c.loop-rest.invariant.room)

pub loop-rest-preserved : goal.loop-rest-preserved
loop-rest-preserved c =
    let l = c.loop-rest in
    let i = l.invariant in
    let step : length (digits_of 16 l.rest) ≡ length (digits_of 16 (l.rest / 16)) + 1 =
    length-digits_of_step 16 l.rest (omega arith) c.loop-rest-test.true in
    let some : 0 < l.start = omega (arith, step, i.room) in
    record {
      all = length-set l.digits (l.start - 1) c.digit.result ∙ i.all;
      within = omega (arith, i.within);
      room = omega (arith, step, i.room);
      zeros = zeros_kept l.digits l.start c.digit.result some i.zeros;
      written =
          i.written
          ∙ digit_set l.digits l.start l.rest c.digit.result c.loop-rest-test.true some (omega (arith, i.within, i.all))
          c.digit.ensures;
    }

pub returns : goal.returns
returns c =
    let l = c.loop-rest in
    let i = l.invariant in
    let whole : map digit (digits_of 16 c.args.number) ≡ drop l.start l.digits =
    i.written
    ∙ ap (λ ds. map digit ds ++ drop l.start l.digits) (no_digits l.rest (omega (arith, c.loop-rest-test.false))) in
    rw c.min.ensures (padded l.digits l.start c.args.number c.args.width i.all i.within c.requires i.zeros whole)
