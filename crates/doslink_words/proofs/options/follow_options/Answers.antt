use Rattle.std.proofs.Common.{◌≡◌, ◌∙◌, ◌<◌, Err, arith, length, rules}
use Rattle.doslink_words.proofs.PartsLemmas.{IsPart, options_end, options_fault, options_more}
use Rattle.doslink_words.proofs.options.follow_options.Goals as goal

pub returns-in_err-follow_part : goal.returns-in_err-follow_part
returns-in_err-follow_part c =
    let here : IsPart c.args.operands.now c.parts.start c.part_end-end.result =
    record { within = c.parts.invariant.within; ends = c.part_end-end.ensures.end } in
    let is : c.from_residual.result ≡ Err c.in_err-follow_part.field-0.0 = search rules in
    options_fault _ _ _ here c.args.line _ _ _ _ c.in_err-follow_part.field-0.0 _ c.in_err-follow_part.ensures is
    c.parts.invariant.same

pub parts-preserved : goal.parts-preserved
parts-preserved c =
    let here : IsPart c.args.operands.now c.parts.start c.part_end-end.result =
    record { within = c.parts.invariant.within; ends = c.part_end-end.ensures.end } in
    let more : c.part_end-end.result < length c.args.operands.now = omega arith in
    record {
      within = omega arith;
      same = c.parts.invariant.same ∙ options_more _ _ _ here c.args.line _ _ more c.in_ok-follow_part.ensures;
    }

pub returns-then-end-last : goal.returns-then-end-last
returns-then-end-last c =
    let here : IsPart c.args.operands.now c.parts.start c.part_end-end.result =
    record { within = c.parts.invariant.within; ends = c.part_end-end.ensures.end } in
    let last : c.part_end-end.result ≡ length c.args.operands.now = omega arith in
    c.parts.invariant.same ∙ options_end _ _ _ here c.args.line _ _ last c.in_ok-follow_part.ensures
