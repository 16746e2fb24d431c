use Rattle.std.proofs.Common.{refl}
use Rattle.std.proofs.lemmas.Result.{err_from_is_err_and}
use Rattle.omf_module.specs.inside.Building.{state}
use Rattle.omf_module.proofs.Stepping.{goes_on, ends, is_done}
use Rattle.omf_module.proofs.builder.ModuleBuilder.add_subrecords.Goals as goal

pub loop-subrecord-init : goal.loop-subrecord-init
loop-subrecord-init g c = refl

pub returns-in_err-add_subrecord : goal.returns-in_err-add_subrecord
returns-in_err-add_subrecord g c =
    let p = err_from_is_err_and c.from_residual.result c.from_residual.ensures.1 in
    rw (p.1, p.2)
    (ends c.args.place (state c.loop-subrecord.self) c.args.subrecords.now c.loop-subrecord.subrecord-index _ _
    c.loop-subrecord-test.true c.loop-subrecord.invariant c.in_err-add_subrecord.field-0.0
    c.in_err-add_subrecord.ensures)

pub loop-subrecord-preserved : goal.loop-subrecord-preserved
loop-subrecord-preserved g c =
    goes_on c.args.place (state c.loop-subrecord.self) c.args.subrecords.now c.loop-subrecord.subrecord-index _ _
    c.loop-subrecord-test.true c.loop-subrecord.invariant _ c.in_ok-add_subrecord.ensures

pub returns : goal.returns
returns g c =
    is_done c.args.place (state c.loop-subrecord.self) c.args.subrecords.now c.loop-subrecord.subrecord-index _
    c.loop-subrecord-test.false c.loop-subrecord.invariant
