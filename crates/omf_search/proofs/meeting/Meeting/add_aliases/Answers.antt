use Rattle.std.proofs.Common.{ap, arith, subst}
use Rattle.std.proofs.lemmas.List.{take_all}
use Rattle.std.specs.List.{fold}
use Rattle.omf_library.specs.Said.{alias_said, aliases_said}
use Rattle.omf_search.specs.Taken.{IsMet}
use Rattle.omf_search.specs.Wanted.{Met, add_alias}
use Rattle.omf_search.proofs.MetSteps.{fold-turn}
use Rattle.omf_search.proofs.meeting.Meeting.add_aliases.Goals as goal

pub loop-alias-init : goal.loop-alias-init
loop-alias-init g c = λ s is. is

pub loop-alias-preserved : goal.loop-alias-preserved
loop-alias-preserved g c = λ s is.
    subst (λ (t : Met). IsMet c.args.names t c.add_alias.new.self)
    (fold-turn (add_alias c.args.names c.args.index) alias_said c.args.aliases.now c.loop-alias.alias-index _ s
    c.loop-alias-test.true)
    (c.in_ok-add_alias.ensures _ (c.loop-alias.invariant s is))

pub returns : goal.returns
returns g c = λ s is.
    subst (λ (t : Met). IsMet c.args.names t c.loop-alias.self)
    (ap (λ aliases. fold (add_alias c.args.names c.args.index) s (aliases_said aliases))
    (take_all c.loop-alias.alias-index c.args.aliases.now (omega arith))) (c.loop-alias.invariant s is)
