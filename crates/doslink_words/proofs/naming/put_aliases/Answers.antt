use Rattle.std.proofs.Common.{◌≡◌, ◌∙◌, ◌<◌, Err, arith, length, rules}
use Rattle.doslink_words.proofs.PartsLemmas.{IsPart, aliases_end, aliases_fault, aliases_more}
use Rattle.doslink_words.proofs.naming.put_aliases.Goals as goal

pub returns-in_err-put_alias : goal.returns-in_err-put_alias
returns-in_err-put_alias c =
    let here : IsPart c.args.operands.now c.parts.start c.part_end-end.result =
    record { within = c.parts.invariant.within; ends = c.part_end-end.ensures.end } in
    let is : c.from_residual.result ≡ Err c.in_err-put_alias.field-0.0 = search rules in
    aliases_fault _ _ _ here _ _ _ _ c.in_err-put_alias.field-0.0 _ c.in_err-put_alias.ensures is
    c.parts.invariant.same

pub parts-preserved : goal.parts-preserved
parts-preserved c =
    let here : IsPart c.args.operands.now c.parts.start c.part_end-end.result =
    record { within = c.parts.invariant.within; ends = c.part_end-end.ensures.end } in
    let more : c.part_end-end.result < length c.args.operands.now = omega arith in
    record {
      within = omega arith;
      same = c.parts.invariant.same ∙ aliases_more _ _ _ here _ _ more c.in_ok-put_alias.ensures;
    }

pub returns-then-end-last : goal.returns-then-end-last
returns-then-end-last c =
    let here : IsPart c.args.operands.now c.parts.start c.part_end-end.result =
    record { within = c.parts.invariant.within; ends = c.part_end-end.ensures.end } in
    let last : c.part_end-end.result ≡ length c.args.operands.now = omega arith in
    c.parts.invariant.same ∙ aliases_end _ _ _ here _ _ last c.in_ok-put_alias.ensures
