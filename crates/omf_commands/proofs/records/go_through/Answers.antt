use Rattle.std.proofs.Common.{◌≡◌, ◌<◌, [], ◌∷◌, ◌++◌, Ok, Err, Some, None, arith, refl, sym, ap, subst, ◌∙◌, inl}
use Rattle.std.proofs.lemmas.Result.{err_from_is_err_and}
use Rattle.std.proofs.lemmas.Option.{IfSome_then}
use Rattle.std.specs.declared.option.Option.{Option}
use Rattle.std.specs.declared.result.Result.{Result}
use Rattle.std.specs.Prelude.{IfSome}
use Rattle.omf_frame.specs.Frame.{Framed, place_limit, frame_at}
use Rattle.omf_frame.specs.Reading.{Gives, IsAt}
use Rattle.omf_frame.specs.Lending.{plain_frame, next_place, IfFrame}
use Rattle.omf_frame.specs.declared.frame.Frame.{Frame}
use Rattle.omf_frame.proofs.Told.{Keeps-refl, at_some}
use Rattle.omf_frame.specs.declared.reading.FrameFault.{FrameFault}
use Rattle.omf_record.specs.Records.{Placed}
use Rattle.omf_record.specs.declared.fault.NoRecord.TheVariants as absent
use Rattle.omf_record.proofs.Records.{AreBeforeEnd-push, AreToEnd-push, kind_end, not_end}
use Rattle.omf_faults.specs.declared.fault.InputFault.TheVariants as fault
use Rattle.omf_commands.specs.Records.{output, FaultAt}
use Rattle.omf_commands.proofs.Through.{begun, one_more, stopped, refused}
use Rattle.omf_commands.proofs.records.go_through.Goals as goal

pub loop-frame-init : goal.loop-frame-init
loop-frame-init g c =
    let t = begun (output c.args.form) (g.S.Source.remaining c.args.source.now) (g.K.Sink.written c.args.sink.now) in
    ([], tt, t.0, t.1, c.in_ok-buf.ensures, refl, refl)

pub returns-in_err-buf-clause-output : goal.returns-in_err-buf-clause-output
returns-in_err-buf-clause-output g c =
    let p = err_from_is_err_and c.from_residual.result c.from_residual.ensures.1 in
    let a = g.S.Source.remaining c.args.source.now in
    let t = begun (output c.args.form) a (g.K.Sink.written c.args.sink.now) in
    rw (p.1, p.2) ([], a, tt, t.0, inl (Keeps-refl a))

pub returns-in-Ok-None-clause-output : goal.returns-in-Ok-None-clause-output
returns-in-Ok-None-clause-output g c =
    let (rs, before, through, at, held, _, _) = c.loop-frame.invariant in
    let place = c.loop-frame.place in
    let told = g.S.Source.remaining c.loop-frame.source in
    let ensured = rw c.in-Ok-None.field-0-is at c.in-Ok-None.ensures.exact in
    let exact = at_some _ place (λ p. IfSome told (λ bytes. frame_at p bytes ≡ Ok None)) held ensured in (
      rs,
      told,
      before,
      through,
      refl,
      at,
      IfSome_then told {Q = (λ bytes. FaultAt place bytes (fault.Absent absent.NoEnd))} exact
          (λ bytes e. (absent.NoEnd, e, refl)),
      c.in-Ok-None.ensures.stands,
    )

pub returns-in-Err-clause-output : goal.returns-in-Err-clause-output
returns-in-Err-clause-output g c =
    let (rs, before, through, at, held, _, _) = c.loop-frame.invariant in
    let place = c.loop-frame.place in
    let told = g.S.Source.remaining c.loop-frame.source in
    let e = c.in-Err.fault in
    let here =
    at_some _ place (λ p. IsAt {A = Option Frame} p (Err e) × IfFrame (Err e) (λ f. f.place ≡ p)) held
    c.in-Err.ensures.at in
    let exact =
    at_some _ place (λ p. IfSome told (λ bytes. Gives plain_frame (Err e) (frame_at p bytes))) held
    c.in-Err.ensures.exact in
    rw c.frame_fault.ensures
    (stopped (Unit {0}) _ (output c.args.form) rs _ told _ _ _ place e through before at here.0 exact
    c.in-Err.ensures.stands)

pub returns-in_err-put_record-clause-output : goal.returns-in_err-put_record-clause-output
returns-in_err-put_record-clause-output g c =
    let (rs, before, through, at, held, _, _) = c.loop-frame.invariant in
    let place = c.loop-frame.place in
    let told = g.S.Source.remaining c.loop-frame.source in
    let f = c.in-Ok-Some.frame in
    let ensured = rw c.in-Ok-Some.field-0-is at c.in-Ok-Some.ensures.at in
    let here = at_some _ place (λ p. (p < place_limit) × (f.place ≡ p)) held ensured in
    let framed = rw c.in-Ok-Some.field-0-is at c.in-Ok-Some.ensures.frame in
    let below : f.place < place_limit = omega (arith, here.0, here.1) in
    let exact =
    at_some _ place (λ p. IfSome told (λ bytes. frame_at p bytes ≡ Ok (Some (plain_frame f)))) held
    (rw c.in-Ok-Some.field-0-is at c.in-Ok-Some.ensures.exact) in
    let stands =
    IfSome_then told {Q = (λ bytes. frame_at f.place bytes ≡ Ok (Some (plain_frame f)))} exact
    (λ bytes e. ap (λ n. frame_at n bytes) here.1 ∙ e) in
    let p = err_from_is_err_and c.from_residual-in_err-put_record.result c.from_residual-in_err-put_record.ensures.1 in
    rw (p.1, p.2)
    (refused (output c.args.form) rs _ told _ _ _ _ (plain_frame f) framed.0 c.in_err-put_record.field-0.0 through
    before (here.1 ∙ at) below framed.1 framed.2 c.in-Ok-Some.ensures.stands stands c.in_err-put_record.ensures.handles)

pub returns-then-frame-clause-output : goal.returns-then-frame-clause-output
returns-then-frame-clause-output g c =
    let (rs, before, through, at, held, same_source, same_sink) = c.loop-frame.invariant in
    let place = c.loop-frame.place in
    let f = c.in-Ok-Some.frame in
    let ensured = rw c.in-Ok-Some.field-0-is at c.in-Ok-Some.ensures.at in
    let here = at_some _ place (λ p. (p < place_limit) × (f.place ≡ p)) held ensured in
    let framed = rw c.in-Ok-Some.field-0-is at c.in-Ok-Some.ensures.frame in
    let below : f.place < place_limit = omega (arith, here.0, here.1) in
    let (r, body, wrote) = c.in_ok-put_record.ensures.handles in
    let record_is : Placed = record { place = f.place; body = f.body.now; says = r } in
    let more =
    one_more (output c.args.form) rs _ _ _ _ _ _ record_is framed.0 through (here.1 ∙ at) below
    (subst (λ k. Framed k f.body.now framed.0) (sym body.0) framed.1) body.1 framed.2 wrote in
    (rs ++ record_is ∷ [], AreToEnd-push rs record_is before (kind_end r (body.0 ∙ c.if-frame.true)), more.0)

pub loop-frame-preserved : goal.loop-frame-preserved
loop-frame-preserved g c =
    let (rs, before, through, at, held, same_source, same_sink) = c.loop-frame.invariant in
    let place = c.loop-frame.place in
    let f = c.in-Ok-Some.frame in
    let ensured = rw c.in-Ok-Some.field-0-is at c.in-Ok-Some.ensures.at in
    let here = at_some _ place (λ p. (p < place_limit) × (f.place ≡ p)) held ensured in
    let framed = rw c.in-Ok-Some.field-0-is at c.in-Ok-Some.ensures.frame in
    let below : f.place < place_limit = omega (arith, here.0, here.1) in
    let (r, body, wrote) = c.in_ok-put_record.ensures.handles in
    let record_is : Placed = record { place = f.place; body = f.body.now; says = r } in
    let more =
    one_more (output c.args.form) rs _ _ _ _ _ _ record_is framed.0 through (here.1 ∙ at) below
    (subst (λ k. Framed k f.body.now framed.0) (sym body.0) framed.1) body.1 framed.2 wrote in
    let next = c.next_record.follows.holds-at-none in (
      rs ++ record_is ∷ [],
      AreBeforeEnd-push rs record_is before (not_end r (λ e. c.if-frame.false (sym body.0 ∙ e))),
      more.0,
      more.1,
      next
          ∙ ap (next_place c.loop-frame.buf)
          (c.in-Ok-Some.is
          ∙ ap (λ (o : Option Frame). let r : Result (Option Frame) FrameFault = Ok o in r) c.in-Ok-Some.field-0-is),
      omega (arith, c.in-Ok-Some.ensures.device, same_source),
      omega (arith, c.in_ok-put_record.ensures.count, same_sink),
    )

pub returns-in-Ok-None-clause-source : goal.returns-in-Ok-None-clause-source
returns-in-Ok-None-clause-source g c =
    let (rs, before, through, at, held, same_source, same_sink) = c.loop-frame.invariant in
    omega (arith, c.in-Ok-None.ensures.device, same_source)

pub returns-then-frame-clause-source : goal.returns-then-frame-clause-source
returns-then-frame-clause-source g c =
    let (rs, before, through, at, held, same_source, same_sink) = c.loop-frame.invariant in
    omega (arith, c.in-Ok-Some.ensures.device, same_source)
