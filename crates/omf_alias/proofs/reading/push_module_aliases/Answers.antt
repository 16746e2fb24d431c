use Rattle.std.proofs.Common.{◌++◌, ◌∙◌, map, sym, ap, arith}
use Rattle.std.proofs.lemmas.List.{append-nil, take_all}
use Rattle.omf_frame.specs.Lending.{plain_frame}
use Rattle.omf_alias.specs.Reading.{aliases_in, aliases_of}
use Rattle.omf_alias.specs.Said.{aliases_said}
use Rattle.omf_library.proofs.Gathering.{gather-turn}
use Rattle.omf_alias.proofs.reading.push_module_aliases.Goals as goal

pub loop-frame-init : goal.loop-frame-init
loop-frame-init g c = sym (append-nil (aliases_said c.args.aliases.now.items))

pub loop-frame-preserved : goal.loop-frame-preserved
loop-frame-preserved g c =
    gather-turn plain_frame aliases_in _ c.loop-frame.frame-index c.frame-item.result
    (aliases_said c.args.aliases.now.items) (aliases_said c.loop-frame.aliases.items) _ c.loop-frame-test.true
    c.frame-item.is c.loop-frame.invariant c.in_ok-push_aliases.ensures

pub returns : goal.returns
returns g c =
    let old = aliases_said c.args.aliases.now.items in
    c.loop-frame.invariant
    ∙ ap (λ fs. old ++ aliases_of (map plain_frame fs)) (take_all c.loop-frame.frame-index _ (omega arith))
    ∙ ap (λ fs. old ++ aliases_of (map plain_frame fs)) c.deref-frame-items.ensures.value
    ∙ ap (λ fs. old ++ aliases_of fs) c.in_ok-frames.ensures
