use Rattle.omf_names.specs.Records.{alias_record}
use Rattle.omf_names.proofs.Walking.{all-more}
use Rattle.omf_names.proofs.records.put_aliases.Goals as goal

pub loop-alias-preserved : goal.loop-alias-preserved
loop-alias-preserved g c =
    all-more (λ a. (a.0.now, a.1.now)) alias_record c.args.aliases.now c.loop-alias.alias-index _ c.loop-alias.out.items
    c.put_alias.new.out.items _ c.loop-alias-test.true c.in_ok-put_alias.ensures c.loop-alias.invariant
