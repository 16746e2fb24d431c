use Rattle.std.proofs.Common.{◌++◌, ◌∷◌, [], ◌∙◌, ap, ap₂}
use Rattle.std.proofs.lemmas.Result.{on_ok_weaker}
use Rattle.omf_search.specs.Results.{bytes_of}
use Rattle.doslink_telling.specs.Lines.{named}
use Rattle.doslink_telling.proofs.communals.push_clashing.Goals as goal

pub returns : goal.returns
returns g c =
    on_ok_weaker c.push_named.result
    (λ e. e
    ∙ ap₂ (λ name words. c.args.lines.now.items ++ named (c.args.label.0, c.args.label.1.now) name words)
    c.name_at.ensures
    (ap bytes_of c.as_slice.ensures ∙ ap₂ (λ a b. a ∷ b ∷ []) c.word_at.ensures c.word_at-2.ensures))
    c.push_named.ensures
