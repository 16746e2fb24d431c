use Rattle.std.proofs.Common.{ap, arith, subst}
use Rattle.std.proofs.lemmas.List.{take_all}
use Rattle.std.specs.List.{fold}
use Rattle.omf_search.specs.Taken.{IsMet}
use Rattle.omf_search.specs.Results.{bytes_of}
use Rattle.omf_search.specs.Wanted.{Met, ask}
use Rattle.omf_search.proofs.MetSteps.{fold-turn}
use Rattle.omf_search.proofs.meeting.Meeting.ask_each.Goals as goal

pub loop-name-init : goal.loop-name-init
loop-name-init g c = λ s is. is

pub loop-name-preserved : goal.loop-name-preserved
loop-name-preserved g c = λ s is.
    subst (λ (t : Met). IsMet c.args.names t c.ask.new.self)
    (fold-turn (ask c.args.names) (λ b. b.now) c.args.these.now c.loop-name.name-index _ s c.loop-name-test.true)
    (c.in_ok-ask.ensures _ (c.loop-name.invariant s is))

pub returns : goal.returns
returns g c = λ s is.
    subst (λ (t : Met). IsMet c.args.names t c.loop-name.self)
    (ap (λ these. fold (ask c.args.names) s (bytes_of these))
    (take_all c.loop-name.name-index c.args.these.now (omega arith))) (c.loop-name.invariant s is)
