use Rattle.std.proofs.Common.{◌≡◌, ◌+◌, length, None, Ok, sym, ap, ◌∙◌, arith}
use Rattle.std.proofs.lemmas.Result.{err_from_is_err_and}
use Rattle.std.specs.Option.{option_or}
use Rattle.omf_frame.specs.Lending.{plain_frame}
use Rattle.omf_library.specs.Records.{comment_text, header_name, place_behind}
use Rattle.omf_library.proofs.Walking.{module_fault, module_first, module_last, module_more}
use Rattle.omf_librarian.proofs.module.module_end.Goals as goal

pub loop-frame-init : goal.loop-frame-init
loop-frame-init c = record {
  header = None;
  comment = None;
  left = module_first c.args.bytes.now 0 (omega arith);
}

pub returns-in_err-frame-clause-said : goal.returns-in_err-frame-clause-said
returns-in_err-frame-clause-said c =
    let p = err_from_is_err_and c.from_residual.result c.from_residual.ensures.1 in
    rw (p.1, p.2)
    (sym (module_fault c.args.bytes.now 0 c.loop-frame.end _ _ _ c.loop-frame.invariant.left
    (sym c.in_err-frame.ensures.said)))

pub returns-then-ends_module-clause-said : goal.returns-then-ends_module-clause-said
returns-then-ends_module-clause-said c =
    let frame = c.in_ok-frame.frame in
    let end = c.loop-frame.end in
    let next = end + (length frame.body.now + 4) in
    let behind : next ≡ place_behind (plain_frame frame) = omega (arith, c.in_ok-frame.ensures.place) in
    let told =
    module_last c.args.bytes.now 0 end _ _ (plain_frame frame) c.loop-frame.invariant.left
    (sym c.in_ok-frame.ensures.said) (sym c.ends_module.ensures ∙ c.if-ends_module.true)
    (omega (arith, behind, c.in_ok-frame.ensures.within)) (omega (arith, behind)) in
    sym (told.same_end ∙ ap Ok (sym behind))

pub loop-frame-preserved : goal.loop-frame-preserved
loop-frame-preserved c =
    let frame = c.in_ok-frame.frame in
    let end = c.loop-frame.end in
    let next = end + (length frame.body.now + 4) in
    let behind : next ≡ place_behind (plain_frame frame) = omega (arith, c.in_ok-frame.ensures.place) in
    record {
      header = option_or c.loop-frame.invariant.header (header_name (plain_frame frame));
      comment = option_or c.loop-frame.invariant.comment (comment_text 0xA3 (plain_frame frame));
      left =
          rw behind
          (module_more c.args.bytes.now 0 end _ _ (plain_frame frame) c.loop-frame.invariant.left
          (sym c.in_ok-frame.ensures.said) (sym c.ends_module.ensures ∙ c.if-ends_module.false)
          (omega (arith, behind, c.in_ok-frame.ensures.within)) (omega (arith, behind)));
    }
