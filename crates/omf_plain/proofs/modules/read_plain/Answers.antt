use Rattle.std.proofs.Common.{◌≡◌, ◌++◌, ◌∷◌, [], true, false, drop, subst, Ok, Some, arith, rules}
use Rattle.std.proofs.lemmas.Result.{err_from_is_err_and}
use Rattle.omf_alias.specs.Said.{renaming_said}
use Rattle.omf_frame.specs.Frame.{frame_at}
use Rattle.omf_frame.specs.Lending.{plain_frame}
use Rattle.omf_library.specs.Records.{ends_module}
use Rattle.omf_plain.specs.Modules.{GivenRecord}
use Rattle.omf_plain.specs.Plain.{Taking}
use Rattle.omf_plain.proofs.Growing.{behind_more, open_more, stand_more, to_end}
use Rattle.omf_plain.proofs.Telling.{frame_refused, take_refused, taken}
use Rattle.omf_plain.proofs.modules.read_plain.Goals as goal

pub returns-in_err-frame : goal.returns-in_err-frame
returns-in_err-frame g c =
    let t : Taking = record {
      keep_debug = c.args.keep_debug;
      renaming = renaming_said c.args.renaming.now;
      comdats = c.args.comdats.now;
    } in
    let bytes = c.args.bytes.now in
    let (gs, k, has, stand, open', at, within) = c.loop-reading.invariant in
    let p = err_from_is_err_and c.from_residual.result c.from_residual.ensures.1 in
    rw (p.1, p.2)
    (frame_refused g.row.A.Denot t bytes gs k c.loop-reading.place c.in_err-frame.field-0.0
    (taken g.row.A.Denot t bytes gs k c.loop-reading.reading has stand) open' at c.in_err-frame.ensures.frame)

pub returns-in_err-take : goal.returns-in_err-take
returns-in_err-take g c =
    let t : Taking = record {
      keep_debug = c.args.keep_debug;
      renaming = renaming_said c.args.renaming.now;
      comdats = c.args.comdats.now;
    } in
    let bytes = c.args.bytes.now in
    let (gs, k, has, stand, open', at, within) = c.loop-reading.invariant in
    let p = err_from_is_err_and c.from_residual-in_err-take.result c.from_residual-in_err-take.ensures.1 in
    rw (p.1, p.2)
    (take_refused g.row.A.Denot (Unit {0}) t bytes gs k c.loop-reading.place (plain_frame c.in_ok-frame.frame)
    c.take.new.self c.in_err-take.field-0.0
    (taken g.row.A.Denot t bytes gs k c.loop-reading.reading has stand) open' at c.in_ok-frame.ensures.frame
    c.in_ok-frame.ensures.place (c.in_err-take.ensures t gs k has))

pub finish-requires : goal.finish-requires
finish-requires g c =
    let t : Taking = record {
      keep_debug = c.args.keep_debug;
      renaming = renaming_said c.args.renaming.now;
      comdats = c.args.comdats.now;
    } in
    let (gs, k, has, stand, open', at, within) = c.loop-reading.invariant in
    let (given, l, more) = c.in_ok-take.ensures t gs k has in
    let (next, held) = more in
    (next.says, held.holds)

pub returns-then-ends_module : goal.returns-then-ends_module
returns-then-ends_module g c =
    let t : Taking = record {
      keep_debug = c.args.keep_debug;
      renaming = renaming_said c.args.renaming.now;
      comdats = c.args.comdats.now;
    } in
    let bytes = c.args.bytes.now in
    let (gs, k, has, stand, open', at, within) = c.loop-reading.invariant in
    let (given, l, more) = c.in_ok-take.ensures t gs k has in
    let (next, held) = more in
    let f = plain_frame c.in_ok-frame.frame in
    let r : GivenRecord = record { frame = f; says = given } in
    let there = subst (λ p. frame_at p (drop p bytes) ≡ Ok (Some f)) at c.in_ok-frame.ensures.frame in
    let ends : ends_module f.kind ≡ true = search rules in (
      gs ++ r ∷ [],
      next,
      taken g.row.A.Denot t bytes (gs ++ r ∷ []) next c.take.new.self held (stand_more bytes 0 gs r stand (there, l)),
      to_end gs r open' ends,
      c.finish.ensures next.says held.holds,
      held.widths,
    )

pub loop-reading-preserved : goal.loop-reading-preserved
loop-reading-preserved g c =
    let t : Taking = record {
      keep_debug = c.args.keep_debug;
      renaming = renaming_said c.args.renaming.now;
      comdats = c.args.comdats.now;
    } in
    let bytes = c.args.bytes.now in
    let (gs, k, has, stand, open', at, within) = c.loop-reading.invariant in
    let (given, l, more) = c.in_ok-take.ensures t gs k has in
    let (next, held) = more in
    let f = plain_frame c.in_ok-frame.frame in
    let r : GivenRecord = record { frame = f; says = given } in
    let there = subst (λ p. frame_at p (drop p bytes) ≡ Ok (Some f)) at c.in_ok-frame.ensures.frame in
    let ends : ends_module f.kind ≡ false = search rules in (
      gs ++ r ∷ [],
      next,
      held,
      stand_more bytes 0 gs r stand (there, l),
      open_more gs r open' ends,
      omega (arith, behind_more 0 gs r, c.in_ok-frame.ensures.place),
      c.in_ok-frame.ensures.within,
    )
