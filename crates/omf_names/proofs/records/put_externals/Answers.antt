use Rattle.omf_names.specs.Records.{external_record}
use Rattle.omf_names.proofs.Walking.{all-more}
use Rattle.omf_names.proofs.records.put_externals.Goals as goal

pub loop-text-preserved : goal.loop-text-preserved
loop-text-preserved g c =
    all-more (λ n. n.now) external_record c.args.texts.now c.loop-text.text-index _ c.loop-text.out.items
    c.put_external.new.out.items _ c.loop-text-test.true c.in_ok-put_external.ensures c.loop-text.invariant
