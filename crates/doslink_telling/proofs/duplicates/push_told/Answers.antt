use Rattle.std.proofs.Common.{◌++◌, ◌∙◌, ap, arith, sym}
use Rattle.std.proofs.lemmas.List.Folds.{flat_map-map}
use Rattle.doslink_telling.specs.Duplicates.{duplicate_line}
use Rattle.doslink_telling.specs.inside.Duplicates.{duplicate_said}
use Rattle.omf_search.specs.Results.{bytes_of}
use Rattle.doslink_telling.proofs.Texts.{all-done, all-more}
use Rattle.doslink_telling.proofs.duplicates.push_told.Goals as goal

pub loop-each-preserved : goal.loop-each-preserved
loop-each-preserved g c = λ all is.
    let line = duplicate_line (bytes_of c.args.words.now) all c.args.tells_all in
    all-more (λ d. line (duplicate_said d)) c.args.told.now c.loop-each.each-index c.each-item.result
    c.loop-each.lines.items c.push_duplicate.new.lines.items _ c.loop-each-test.true
    (c.in_ok-push_duplicate.ensures all is
    ∙ ap (λ d. c.loop-each.lines.items ++ line (duplicate_said d)) c.each-item.is)
    (c.loop-each.invariant all is)

pub returns : goal.returns
returns g c = λ all is.
    let line = duplicate_line (bytes_of c.args.words.now) all c.args.tells_all in
    all-done (λ d. line (duplicate_said d)) c.args.told.now c.loop-each.each-index c.loop-each.lines.items _
    (omega arith)
    (c.loop-each.invariant all is)
    ∙ ap (λ l. c.args.lines.now.items ++ l) (sym (flat_map-map line duplicate_said c.args.told.now))
