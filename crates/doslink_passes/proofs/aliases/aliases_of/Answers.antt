use Rattle.std.proofs.Common.{[], map, ap, ◌∙◌, arith}
use Rattle.std.proofs.lemmas.List.{take_all}
use Rattle.omf_library.proofs.Gathering.{gather-turn}
use Rattle.omf_alias.specs.Reading.{aliases_of}
use Rattle.omf_alias.specs.Said.{aliases_said}
use Rattle.omf_library.specs.Records.{module_records}
use Rattle.doslink_stock.specs.Seen.{handed_held}
use Rattle.doslink_passes.specs.Aliases.{link_aliases}
use Rattle.doslink_passes.proofs.aliases.aliases_of.Goals as goal

pub loop-each-preserved : goal.loop-each-preserved
loop-each-preserved g c =
    gather-turn (λ h. (handed_held h).bytes) (λ m. aliases_of (module_records m 0)) c.args.request.now.handed.now
    c.loop-each.each-index c.each-item.result [] (aliases_said c.loop-each.aliases.items) _ c.loop-each-test.true
    c.each-item.is c.loop-each.invariant c.in_ok-push_module_aliases.ensures

pub returns : goal.returns
returns g c =
    c.loop-each.invariant
    ∙ ap (λ hs. link_aliases (map (λ h. (handed_held h).bytes) hs))
    (take_all c.loop-each.each-index c.args.request.now.handed.now (omega arith))
