use Rattle.std.proofs.Common.{◌++◌, ◌∷◌, [], ◌∙◌, ap, append-nil, length, refl, sym}
use Rattle.std.proofs.lemmas.Option.{slice_get_past, slice_get_read}
use Rattle.std.proofs.lemmas.Result.{on_ok_weaker}
use Rattle.std.specs.Option.{option_map_or}
use Rattle.omf_search.specs.Results.{bytes_of}
use Rattle.doslink_telling.specs.Lines.{named}
use Rattle.doslink_telling.specs.Words.{word_at}
use Rattle.doslink_telling.proofs.communals.push_declared.Goals as goal

pub returns-in-Some : goal.returns-in-Some
returns-in-Some g c =
    let old = c.args.lines.now.items in
    let variables = c.args.variables.now in
    let v = c.in-Some.variable.now in
    let lookup = c.in-Some.ensures.lookup in
    let is = slice_get_read variables (length variables) c.args.index v refl lookup.3.0 lookup.1 in
    on_ok_weaker c.push_named.result
    (λ e. e
    ∙ ap (λ ws. old ++ named (c.args.label.0, c.args.label.1.now) v.name.now ws)
    (ap bytes_of c.as_slice.ensures ∙ ap (λ w. w ∷ []) c.word_at.ensures)
    ∙ sym (ap (λ o. old ++ option_map_or (λ u. named (c.args.label.0, c.args.label.1.now) u.name.now
    (word_at c.args.words.now u.first.module ∷ [])) o []) is))
    c.push_named.ensures

pub returns-in-None : goal.returns-in-None
returns-in-None g c =
    let old = c.args.lines.now.items in
    sym (ap (λ o. old ++ option_map_or (λ u. named (c.args.label.0, c.args.label.1.now) u.name.now
    (word_at c.args.words.now u.first.module ∷ [])) o [])
    (slice_get_past c.args.variables.now c.args.index c.in-None.ensures.lookup.3) ∙ append-nil old)
