use Rattle.std.proofs.Common.{ap, arith, refl, ◌∙◌}
use Rattle.std.proofs.lemmas.List.{take_all}
use Rattle.omf_names.specs.Views.{aliases_said}
use Rattle.doslink_words.specs.Said.{alias_of, aliases_of}
use Rattle.doslink_passes.proofs.Lists.{map-step}
use Rattle.doslink_passes.proofs.names.all_aliases.Goals as goal

pub loop-alias-init : goal.loop-alias-init
loop-alias-init g c = ap aliases_said c.new-all.ensures.items

pub loop-alias-preserved : goal.loop-alias-preserved
loop-alias-preserved g c =
    map-step (λ a. (a.0.now, a.1.now)) alias_of c.args.aliases.now c.loop-alias.alias-index _ c.loop-alias.all.items
    c.push.new.self.items _ c.loop-alias-test.true c.in_ok-push.ensures.items refl c.loop-alias.invariant

pub returns : goal.returns
returns g c =
    c.loop-alias.invariant ∙ ap aliases_of (take_all c.loop-alias.alias-index c.args.aliases.now (omega arith))
