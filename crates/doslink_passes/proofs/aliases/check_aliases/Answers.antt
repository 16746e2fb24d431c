use Rattle.std.proofs.Common.{◌≡◌, All, None, Some, map, subst, sym, ap, ◌∙◌, arith}
use Rattle.std.proofs.lemmas.List.{take_all}
use Rattle.std.specs.Option.{option_map}
use Rattle.omf_alias.specs.Said.{alias_said, aliases_said}
use Rattle.omf_search.specs.Results.{module_said}
use Rattle.doslink_stock.specs.Seen.{handed_held}
use Rattle.doslink_passes.specs.Aliases.{EndsIn}
use Rattle.doslink_passes.proofs.Endless.{all-turn}
use Rattle.doslink_passes.proofs.Refused.{OnInput-holds, any-seen}
use Rattle.doslink_passes.proofs.aliases.check_aliases.Goals as goal

pub loop-index-preserved : goal.loop-index-preserved
loop-index-preserved g c =
    let m = c.args.meanings.now in
    all-turn (EndsIn m.names (map module_said m.says.now) (aliases_said m.aliases.aliases.items))
    (λ h. (handed_held h).bytes)
    c.args.request.now.handed.now c.loop-index.index c.index-handed-index.result c.loop-index-test.true
    c.index-handed-index.is c.loop-index.invariant
    (sym c.in_ok-found.ensures ∙ ap (option_map alias_said) c.in_default.is)

pub returns : goal.returns
returns g c =
    let m = c.args.meanings.now in
    subst (λ hs. All (EndsIn m.names (map module_said m.says.now) (aliases_said m.aliases.aliases.items))
    (map (λ h. (handed_held h).bytes) hs)) (take_all c.loop-index.index c.args.request.now.handed.now (omega arith))
    c.loop-index.invariant

pub returns-in-Some : goal.returns-in-Some
returns-in-Some g c =
    let m = c.args.meanings.now in
    OnInput-holds c.stop_after.result
    (any-seen (λ bytes. EndsIn m.names (map module_said m.says.now) (aliases_said m.aliases.aliases.items) bytes → ⊥)
    (λ h. (handed_held h).bytes) c.args.request.now.handed.now c.loop-index.index c.index-handed-index.result
    c.loop-index-test.true c.index-handed-index.is
    (λ ends. let e : Some (alias_said c.in-Some.alias) ≡ None =
    ap (option_map alias_said) (sym c.in-Some.is) ∙ c.in_ok-found.ensures ∙ ends in cc))
