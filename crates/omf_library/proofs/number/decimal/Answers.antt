use Rattle.std.proofs.Common.{sym, arith, rules}
use Rattle.omf_library.proofs.Digits.{decimal-none, digits_stop, digits_all, digits_fit}
use Rattle.omf_library.proofs.number.decimal.Goals as goal

pub returns-then-is_empty : goal.returns-then-is_empty
returns-then-is_empty c = sym (decimal-none c.args.digits.now (search rules))

pub returns-then-not-is_ascii_digit : goal.returns-then-not-is_ascii_digit
returns-then-not-is_ascii_digit c =
    sym (digits_stop c.loop-digit.number c.args.digits.now c.loop-digit.digit-index (search rules) (search rules)
    c.loop-digit.invariant.1)

pub overflow_mul-number : goal.overflow_mul-number
overflow_mul-number c =
    let fit = digits_fit c.loop-digit.number c.loop-digit.digit-index c.loop-digit.invariant.0 (omega arith) in
    omega (arith, fit)

pub overflow_add-number : goal.overflow_add-number
overflow_add-number c =
    let fit = digits_fit c.loop-digit.number c.loop-digit.digit-index c.loop-digit.invariant.0 (omega arith) in
    let small = c.type_inv.digits c.loop-digit.digit-index in
    omega (arith, fit, small, c.from.ensures)

pub returns : goal.returns
returns c =
    sym (digits_all c.loop-digit.number c.args.digits.now c.loop-digit.digit-index (search rules) (search rules)
    c.loop-digit.invariant.1)
