use Rattle.std.proofs.Common.{◌∙◌, IfOk, MatchOption, Ok, Err, Result, string_bytes, subst, sym}
use Rattle.std.specs.Option.{option_map}
use Rattle.doslink_files.specs.Written.{StandsAt}
use Rattle.doslink_link.specs.Linking.{bytes_of}
use Rattle.doslink_jobs.specs.Maps as spec
use Rattle.doslink_jobs.proofs.program.write_files.Goals as goal

-- what holds where there is an answer
weaker : {T E P Q : Type 0} (r : Result T E) → (P → Q) → IfOk r (λ _. P) → IfOk r (λ _. Q)
weaker (Ok done) to p = to p
weaker (Err fault) to p = tt

pub returns-in-None-clause-written : goal.returns-in-None-clause-written
returns-in-None-clause-written g c =
    let Writes = StandsAt (g.W.World.blank c.args.world.now) (g.W.World.Puts c.args.world.now) in
    let text = spec.map_bytes c.args.job.now.map_form c.args.linked.now.report (bytes_of c.args.inputs.now)
    (bytes_of c.args.words.now) in
    weaker c.put_or_tell.result
    (λ stands. (
      subst (Writes (string_bytes c.args.places.now.out)) c.deref.ensures.value
          (subst (λ p. Writes p c.deref.result.now) c.as_str-out.ensures.value stands),
      subst (λ m. MatchOption (option_map string_bytes m) (Unit {0}) (λ path. Writes path text)) (sym c.in-None.is) tt,
    )) c.put_or_tell.ensures.written

pub returns-in_ok-put_or_tell-in-Some-clause-written : goal.returns-in_ok-put_or_tell-in-Some-clause-written
returns-in_ok-put_or_tell-in-Some-clause-written g c =
    let Writes = StandsAt (g.W.World.blank c.args.world.now) (g.W.World.Puts c.args.world.now) in
    let text = spec.map_bytes c.args.job.now.map_form c.args.linked.now.report (bytes_of c.args.inputs.now)
    (bytes_of c.args.words.now) in
    let program = c.in_ok-put_or_tell-in-Some.ensures.written in
    weaker c.put_or_tell-in-Some-2.result
    (λ stands. (
      subst (Writes (string_bytes c.args.places.now.out)) c.deref-in-Some.ensures.value
          (subst (λ p. Writes p c.deref-in-Some.result.now) c.as_str-out.ensures.value program),
      subst (λ m. MatchOption (option_map string_bytes m) (Unit {0}) (λ path. Writes path text)) (sym c.in-Some.is)
          (subst (Writes (string_bytes c.in-Some.path)) (c.deref-in-Some-2.ensures.value ∙ c.in_ok-map-in-Some.ensures)
          (subst (λ p. Writes p c.deref-in-Some-2.result.now) c.as_str.ensures.value stands)),
    )) c.put_or_tell-in-Some-2.ensures.written
