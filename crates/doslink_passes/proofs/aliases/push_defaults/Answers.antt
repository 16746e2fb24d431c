use Rattle.std.proofs.Common.{◌++◌, get_or, map, ap, sym, ◌∙◌, arith}
use Rattle.std.proofs.lemmas.List.{append-nil, get_or_default, take_all}
use Rattle.omf_alias.specs.Said.{aliases_said}
use Rattle.omf_library.proofs.Gathering.{gather-turn}
use Rattle.omf_library.specs.Said.{all_defaulted, defaulted_said}
use Rattle.omf_search.specs.Results.{module_said}
use Rattle.doslink_passes.specs.Aliases.{default_alias, default_aliases}
use Rattle.doslink_passes.proofs.aliases.push_defaults.Goals as goal

pub loop-one-init : goal.loop-one-init
loop-one-init g c = sym (append-nil (aliases_said c.args.aliases.now.items))

pub loop-one-preserved : goal.loop-one-preserved
loop-one-preserved g c =
    let m = c.args.meanings.now in
    gather-turn defaulted_said (default_alias m.names (map module_said m.says.now)) c.args.externals.now
    c.loop-one.one-index (get_or c.args.externals.now c.loop-one.one-index _)
    (aliases_said c.args.aliases.now.items) (aliases_said c.loop-one.aliases.items) _ c.loop-one-test.true
    (get_or_default c.args.externals.now c.loop-one.one-index _ _ c.loop-one-test.true) c.loop-one.invariant
    c.in_ok-push_default.ensures

pub returns : goal.returns
returns g c =
    let m = c.args.meanings.now in
    c.loop-one.invariant
    ∙ ap (λ ds. aliases_said c.args.aliases.now.items
    ++ default_aliases m.names (map module_said m.says.now) (all_defaulted ds))
    (take_all c.loop-one.one-index c.args.externals.now (omega arith))
