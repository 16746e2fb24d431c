use Rattle.std.proofs.Common.{[], map, subst, sym, arith}
use Rattle.std.proofs.lemmas.List.{take_all}
use Rattle.omf_comdat.specs.Told.{modules_said}
use Rattle.doslink_passes.specs.Comdats.{AreRecordsOf}
use Rattle.doslink_passes.proofs.Fates.{records-next}
use Rattle.doslink_passes.proofs.comdats.records_of.Goals as goal

pub loop-one-init : goal.loop-one-init
loop-one-init g c = subst (λ l. AreRecordsOf [] (modules_said l)) (sym c.new-all.ensures.items) tt

pub loop-one-preserved : goal.loop-one-preserved
loop-one-preserved g c =
    records-next (λ g. g.bytes.now) c.args.given.now c.loop-one.one-index _ c.loop-one.all.items
    c.push.new.self.items c.in_ok-records_in.field-0 c.loop-one-test.true c.in_ok-push.ensures.items
    c.loop-one.invariant c.in_ok-records_in.ensures

pub returns : goal.returns
returns g c =
    subst (λ l. AreRecordsOf (map (λ g. g.bytes.now) l) (modules_said c.loop-one.all.items))
    (take_all c.loop-one.one-index c.args.given.now (omega arith)) c.loop-one.invariant
