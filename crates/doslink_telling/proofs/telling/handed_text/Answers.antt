use Rattle.std.proofs.Common.{ℕ, ◌++◌, ◌∙◌, ap, ap₂, arith}
use Rattle.std.specs.Option.{option_copied}
use Rattle.doslink_stock.specs.declared.searching.Handed.{Handed}
use Rattle.doslink_telling.specs.Words.{handed_text, taken_end, word_at}
use Rattle.doslink_telling.proofs.Texts.{each-done, each-more}
use Rattle.doslink_telling.proofs.telling.handed_text.Goals as goal

pub loop-index-init : goal.loop-index-init
loop-index-init g c = ap (λ t. t ++ handed_text c.args.handed.now c.args.words.now) c.new-text.ensures.items

pub loop-index-preserved : goal.loop-index-preserved
loop-index-preserved g c =
    let old = c.loop-index.text.items in
    each-more (λ (p : ℕ × Handed g.row.A.Denot). word_at c.args.words.now p.0 ++ taken_end (option_copied p.1.wanted))
    c.args.handed.now c.loop-index.index c.index-handed-index.result old _ _ c.loop-index-test.true
    (c.in_ok-push_handed.ensures
    ∙ ap₂ (λ w h. old ++ (w ++ taken_end (option_copied h.wanted))) c.word_at.ensures c.index-handed-index.is)
    c.loop-index.invariant

pub returns : goal.returns
returns g c =
    each-done (λ (p : ℕ × Handed g.row.A.Denot). word_at c.args.words.now p.0 ++ taken_end (option_copied p.1.wanted))
    c.args.handed.now c.loop-index.index c.loop-index.text.items _ (omega arith) c.loop-index.invariant
