use Rattle.std.proofs.Common.{◌++◌, map, ap, sym, ◌∙◌, arith}
use Rattle.std.proofs.lemmas.List.{append-nil, take_all}
use Rattle.std.specs.List.{flat_map}
use Rattle.omf_frame.specs.Lending.{plain_frame}
use Rattle.omf_library.specs.Said.{all_defaulted}
use Rattle.omf_library.specs.Said.{externals_said}
use Rattle.omf_library.specs.Defaults.{defaulted_in, module_externals}
use Rattle.omf_library.proofs.Unmarked.{untold}
use Rattle.omf_library.proofs.Gathering.{gather-turn}
use Rattle.omf_library.proofs.defaults.push_defaulted.Goals as goal

pub loop-frame-init : goal.loop-frame-init
loop-frame-init g c = sym (append-nil (all_defaulted c.args.told.now.items))

pub loop-frame-preserved : goal.loop-frame-preserved
loop-frame-preserved g c =
    gather-turn plain_frame (defaulted_in c.args.class (externals_said c.in_ok-externals.externals.items))
    c.args.frames.now c.loop-frame.frame-index c.frame-item.result (all_defaulted c.args.told.now.items)
    (all_defaulted c.loop-frame.told.items) _ c.loop-frame-test.true c.frame-item.is c.loop-frame.invariant
    (c.in_ok-push_told.ensures
    ∙ ap (λ es. all_defaulted c.loop-frame.told.items
    ++ defaulted_in c.args.class (externals_said es) (plain_frame c.frame-item.result)) c.deref.ensures.value)

pub returns : goal.returns
returns g c =
    let old = all_defaulted c.args.told.now.items in
    c.loop-frame.invariant
    ∙ ap (λ fs. old ++ flat_map (defaulted_in c.args.class (externals_said c.in_ok-externals.externals.items))
    (map plain_frame fs)) (take_all c.loop-frame.frame-index c.args.frames.now (omega arith))
    ∙ ap (λ es. old ++ flat_map (defaulted_in c.args.class es) (map plain_frame c.args.frames.now))
    c.in_ok-externals.ensures

pub returns-then-not-has_comments : goal.returns-then-not-has_comments
returns-then-not-has_comments g c =
    untold c.args.class (module_externals (map plain_frame c.args.frames.now)) c.args.frames.now
    (all_defaulted c.args.told.now.items) (sym c.has_comments.ensures ∙ c.if-not-has_comments.true)
