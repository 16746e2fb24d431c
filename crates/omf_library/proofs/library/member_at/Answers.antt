use Rattle.std.proofs.Common.{◌≡◌, ◌+◌, length, slice_range, sym, refl, ◌∙◌, arith}
use Rattle.std.proofs.lemmas.Result.{err_from_is_err_and}
use Rattle.omf_frame.specs.Lending.{plain_frame}
use Rattle.omf_library.proofs.Told.{member_part}
use Rattle.omf_library.proofs.Walking.{module_first, module_fault, module_done, module_step, member_is, no_member}
use Rattle.omf_library.proofs.library.member_at.Goals as goal

pub loop-frame-init : goal.loop-frame-init
loop-frame-init c = module_first c.args.file.now c.args.place c.requires

pub returns-in_err-frame-clause-said : goal.returns-in_err-frame-clause-said
returns-in_err-frame-clause-said c =
    let file = c.args.file.now in
    let p = err_from_is_err_and c.from_residual.result c.from_residual.ensures.1 in
    rw (p.1, p.2)
    (no_member file c.args.place _
    (module_fault file c.args.place c.loop-frame.end _ _ _ c.loop-frame.invariant (sym c.in_err-frame.ensures.said)))

pub returns-then-ends_module-clause-said : goal.returns-then-ends_module-clause-said
returns-then-ends_module-clause-said c =
    let file = c.args.file.now in
    let frame = c.in_ok-frame.frame in
    let end = c.loop-frame.end in
    let next = end + (length frame.body.now + 4) in
    let here : next ≡ frame.place + (length frame.body.now + 4) = omega (arith, c.in_ok-frame.ensures.place) in
    let told =
    module_done file c.args.place end next _ _ _ _ _ _ (plain_frame frame) c.loop-frame.invariant
    c.in_ok-frame.ensures.said
    (sym c.ends_module.ensures ∙ c.if-ends_module.true) here c.in_ok-frame.ensures.within (omega arith)
    c.or-header.ensures c.header_name.ensures c.or-comment.ensures c.comment_text.ensures in
    member_is file c.args.place next _ _ (slice_range file c.args.place next) c.name_of.result.now told refl
    c.name_of.ensures

pub returns-then-ends_module-clause-part : goal.returns-then-ends_module-clause-part
returns-then-ends_module-clause-part c =
    member_part c.args.file.now c.args.place (c.loop-frame.end + (length c.in_ok-frame.frame.body.now + 4)) _
    (omega (arith, c.loop-frame.invariant.begun)) c.in_ok-frame.ensures.within refl refl

pub loop-frame-preserved : goal.loop-frame-preserved
loop-frame-preserved c =
    let frame = c.in_ok-frame.frame in
    let end = c.loop-frame.end in
    let next = end + (length frame.body.now + 4) in
    let here : next ≡ frame.place + (length frame.body.now + 4) = omega (arith, c.in_ok-frame.ensures.place) in
    module_step c.args.file.now c.args.place end next _ _ _ _ _ _ (plain_frame frame) c.loop-frame.invariant
    c.in_ok-frame.ensures.said
    (sym c.ends_module.ensures ∙ c.if-ends_module.false) here c.in_ok-frame.ensures.within (omega arith)
    c.or-header.ensures c.header_name.ensures c.or-comment.ensures c.comment_text.ensures
