use Rattle.std.proofs.lemmas.List.{take_rest}
use Rattle.omf_library.specs.Records.{record_at}
use Rattle.omf_library.proofs.records.record_at.Goals as goal

pub returns-in-Ok-clause-said : goal.returns-in-Ok-clause-said
unfolding record_at
returns-in-Ok-clause-said c =
    let said = c.in-Ok.ensures.split.same c.args.place in
    rw (c.new.ensures.place, c.new.ensures.kind, c.new.ensures.body)
    (rw (take_rest c.args.file.now c.args.place) at said)

pub returns-in-Err-clause-said : goal.returns-in-Err-clause-said
unfolding record_at
returns-in-Err-clause-said c =
    let said = c.in-Err.ensures.split.same c.args.place in
    rw (take_rest c.args.file.now c.args.place) at said
