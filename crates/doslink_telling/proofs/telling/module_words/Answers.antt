use Rattle.std.proofs.Common.{ℕ, Vec, ◌∙◌, ap, arith, map}
use Rattle.std.proofs.lemmas.List.{take_all}
use Rattle.doslink_stock.specs.declared.searching.Handed.{Handed}
use Rattle.doslink_stock.specs.Seen.{handed_held}
use Rattle.doslink_stock.proofs.Walks.{map-step}
use Rattle.doslink_telling.specs.Words.{module_word}
use Rattle.doslink_telling.proofs.telling.module_words.Goals as goal

pub loop-each-init : goal.loop-each-init
loop-each-init g c = ap (map (λ (w : Vec ℕ g.row.A.Denot). w.items)) c.new-words.ensures.items

pub loop-each-preserved : goal.loop-each-preserved
loop-each-preserved g c =
    map-step (λ (w : Vec ℕ g.row.A.Denot). w.items)
    (λ (h : Handed g.row.A.Denot). module_word c.args.paths.now (handed_held h)) c.args.handed.now
    c.loop-each.each-index c.each-item.result c.loop-each.words.items _ _ c.loop-each-test.true
    c.in_ok-push.ensures.items
    (c.in_ok-module_word.ensures ∙ ap (λ h. module_word c.args.paths.now (handed_held h)) c.each-item.is)
    c.loop-each.invariant

pub returns : goal.returns
returns g c =
    c.loop-each.invariant
    ∙ ap (map (λ (h : Handed g.row.A.Denot). module_word c.args.paths.now (handed_held h)))
    (take_all c.loop-each.each-index c.args.handed.now (omega arith))
