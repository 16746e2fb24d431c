use Rattle.std.proofs.Common.{◌≡◌, ◌<◌, [], Ok, Err, Some, None, arith, refl, ap, ◌∙◌}
use Rattle.std.proofs.lemmas.Result.{err_from_is_err_and}
use Rattle.std.specs.declared.option.Option.{Option}
use Rattle.std.specs.declared.result.Result.{Result}
use Rattle.std.specs.Prelude.{IfSome}
use Rattle.omf_frame.specs.Frame.{place_limit, frame_at}
use Rattle.omf_frame.specs.Reading.{Gives, IsAt}
use Rattle.omf_frame.specs.Lending.{plain_frame, next_place, IfFrame}
use Rattle.omf_frame.proofs.Told.{at_some}
use Rattle.omf_frame.specs.declared.frame.Frame.{Frame}
use Rattle.omf_frame.specs.declared.reading.FrameFault.{FrameFault}
use Rattle.omf_module.specs.inside.Building.{state}
use Rattle.omf_module.proofs.Held.{state_is}
use Rattle.omf_module.proofs.Taking.{begun}
use Rattle.omf_module.proofs.Answering.{no_memory, no_end, frame_stopped, refuses, ends, ends_sound, goes_on}
use Rattle.omf_module.proofs.reading.read_records.Goals as goal

pub returns-in_err-buf-clause-reads : goal.returns-in_err-buf-clause-reads
returns-in_err-buf-clause-reads g c =
    let p = err_from_is_err_and c.from_residual.result c.from_residual.ensures.1 in
    rw (p.1, p.2) (no_memory (g.S.Source.remaining c.args.source.now))

pub loop-frame-init : goal.loop-frame-init
loop-frame-init g c = (
  [],
  [],
  begun (g.S.Source.remaining c.args.source.now),
  refl,
  c.in_ok-buf.ensures,
  state_is [] c.new-builder.result c.new-builder.ensures.keeps,
  refl,
)

pub returns-in-Ok-None-clause-reads : goal.returns-in-Ok-None-clause-reads
returns-in-Ok-None-clause-reads g c =
    let (rs, front, took, at, held, _, _) = c.loop-frame.invariant in
    let place = c.loop-frame.place in
    let told = g.S.Source.remaining c.loop-frame.source in
    let ensured = rw c.in-Ok-None.field-0-is at c.in-Ok-None.ensures.exact in
    let exact = at_some _ place (λ p. IfSome told (λ bytes. frame_at p bytes ≡ Ok None)) held ensured in
    no_end rs front _ told _ took place at exact c.in-Ok-None.ensures.stands

pub returns-in-Err-clause-reads : goal.returns-in-Err-clause-reads
returns-in-Err-clause-reads g c =
    let (rs, front, took, at, held, _, _) = c.loop-frame.invariant in
    let place = c.loop-frame.place in
    let told = g.S.Source.remaining c.loop-frame.source in
    let e = c.in-Err.fault in
    let here =
    at_some _ place (λ p. IsAt {A = Option Frame} p (Err e) × IfFrame (Err e) (λ f. f.place ≡ p)) held
    c.in-Err.ensures.at in
    let exact =
    at_some _ place (λ p. IfSome told (λ bytes. Gives plain_frame (Err e) (frame_at p bytes))) held
    c.in-Err.ensures.exact in
    rw c.read_fault.ensures (frame_stopped rs front _ told _ took place e at here.0 exact c.in-Err.ensures.stands)

pub returns-in_err-take_record-clause-reads : goal.returns-in_err-take_record-clause-reads
returns-in_err-take_record-clause-reads g c =
    let (rs, front, took, at, held, kept, _) = c.loop-frame.invariant in
    let place = c.loop-frame.place in
    let told = g.S.Source.remaining c.loop-frame.source in
    let f = c.in-Ok-Some.frame in
    let ensured = rw c.in-Ok-Some.field-0-is at c.in-Ok-Some.ensures.at in
    let here = at_some _ place (λ p. (p < place_limit) × (f.place ≡ p)) held ensured in
    let framed = rw c.in-Ok-Some.field-0-is at c.in-Ok-Some.ensures.frame in
    let exactly = rw c.in-Ok-Some.field-0-is at c.in-Ok-Some.ensures.exact in
    let exact =
    at_some _ place (λ p. IfSome told (λ bytes. frame_at p bytes ≡ Ok (Some (plain_frame f)))) held exactly in
    let below : f.place < place_limit = omega (arith, here.0, here.1) in
    let p =
    err_from_is_err_and c.from_residual-in_err-take_record.result c.from_residual-in_err-take_record.ensures.1 in
    rw (p.1, p.2)
    (refuses rs front _ told _ took (plain_frame f) framed.0 (here.1 ∙ at) below framed.1 framed.2
    (rw (← here.1) at exact) c.in-Ok-Some.ensures.stands (state c.loop-frame.builder) kept
    (state c.take_record.new.builder) c.in_err-take_record.field-0.0 c.in_err-take_record.ensures)

pub into_module-requires : goal.into_module-requires
into_module-requires g c =
    let (rs, front, took, at, held, kept, _) = c.loop-frame.invariant in
    let place = c.loop-frame.place in
    let told = g.S.Source.remaining c.loop-frame.source in
    let f = c.in-Ok-Some.frame in
    let ensured = rw c.in-Ok-Some.field-0-is at c.in-Ok-Some.ensures.at in
    let here = at_some _ place (λ p. (p < place_limit) × (f.place ≡ p)) held ensured in
    let framed = rw c.in-Ok-Some.field-0-is at c.in-Ok-Some.ensures.frame in
    let exactly = rw c.in-Ok-Some.field-0-is at c.in-Ok-Some.ensures.exact in
    let exact =
    at_some _ place (λ p. IfSome told (λ bytes. frame_at p bytes ≡ Ok (Some (plain_frame f)))) held exactly in
    let below : f.place < place_limit = omega (arith, here.0, here.1) in
    let takes = rw c.if-branch.true at c.in_ok-take_record.ensures in
    ends_sound rs front _ told _ took (plain_frame f) framed.0 (here.1 ∙ at) below framed.1 framed.2
    (rw (← here.1) at exact) c.in-Ok-Some.ensures.stands (state c.loop-frame.builder) kept
    (state c.take_record.new.builder) takes

pub returns-then-branch-clause-reads : goal.returns-then-branch-clause-reads
returns-then-branch-clause-reads g c =
    let (rs, front, took, at, held, kept, _) = c.loop-frame.invariant in
    let place = c.loop-frame.place in
    let told = g.S.Source.remaining c.loop-frame.source in
    let f = c.in-Ok-Some.frame in
    let ensured = rw c.in-Ok-Some.field-0-is at c.in-Ok-Some.ensures.at in
    let here = at_some _ place (λ p. (p < place_limit) × (f.place ≡ p)) held ensured in
    let framed = rw c.in-Ok-Some.field-0-is at c.in-Ok-Some.ensures.frame in
    let exactly = rw c.in-Ok-Some.field-0-is at c.in-Ok-Some.ensures.exact in
    let exact =
    at_some _ place (λ p. IfSome told (λ bytes. frame_at p bytes ≡ Ok (Some (plain_frame f)))) held exactly in
    let below : f.place < place_limit = omega (arith, here.0, here.1) in
    let takes = rw c.if-branch.true at c.in_ok-take_record.ensures in
    ends rs front _ told _ took (plain_frame f) framed.0 (here.1 ∙ at) below framed.1 framed.2 (rw (← here.1) at exact)
    c.in-Ok-Some.ensures.stands (state c.loop-frame.builder) kept (state c.take_record.new.builder) _ takes
    c.into_module.ensures

pub loop-frame-preserved : goal.loop-frame-preserved
loop-frame-preserved g c =
    let (rs, front, took, at, held, kept, same) = c.loop-frame.invariant in
    let place = c.loop-frame.place in
    let told = g.S.Source.remaining c.loop-frame.source in
    let f = c.in-Ok-Some.frame in
    let ensured = rw c.in-Ok-Some.field-0-is at c.in-Ok-Some.ensures.at in
    let here = at_some _ place (λ p. (p < place_limit) × (f.place ≡ p)) held ensured in
    let framed = rw c.in-Ok-Some.field-0-is at c.in-Ok-Some.ensures.frame in
    let exactly = rw c.in-Ok-Some.field-0-is at c.in-Ok-Some.ensures.exact in
    let exact =
    at_some _ place (λ p. IfSome told (λ bytes. frame_at p bytes ≡ Ok (Some (plain_frame f)))) held exactly in
    let below : f.place < place_limit = omega (arith, here.0, here.1) in
    let takes = rw c.if-branch.false at c.in_ok-take_record.ensures in
    let more =
    goes_on rs front _ told _ took (plain_frame f) framed.0 (here.1 ∙ at) below framed.1 framed.2
    (rw (← here.1) at exact) c.in-Ok-Some.ensures.stands (state c.loop-frame.builder) kept
    (state c.take_record.new.builder) takes in
    let next = c.next_record.follows.holds-at-none in (
      more.0,
      more.1,
      more.2,
      more.3,
      next
          ∙ ap (next_place c.loop-frame.buf)
          (c.in-Ok-Some.is
          ∙ ap (λ (o : Option Frame). let r : Result (Option Frame) FrameFault = Ok o in r) c.in-Ok-Some.field-0-is),
      more.4,
      omega (arith, c.in-Ok-Some.ensures.device, same),
    )
