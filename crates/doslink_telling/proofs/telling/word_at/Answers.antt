use Rattle.std.proofs.Common.{[], ◌∙◌, ap, length, refl, sym}
use Rattle.std.proofs.lemmas.Option.{slice_get_past, slice_get_read}
use Rattle.std.specs.Option.{option_map_or}
use Rattle.doslink_telling.proofs.telling.word_at.Goals as goal

pub returns-in-Some : goal.returns-in-Some
returns-in-Some g c =
    let words = c.args.words.now in
    let lookup = c.in-Some.ensures.lookup in
    c.as_slice.ensures.value
    ∙ sym (ap (λ o. option_map_or (λ w. w.items) o [])
    (slice_get_read words (length words) c.args.index c.in-Some.word.now refl lookup.3.0 lookup.1))

pub returns-in-None : goal.returns-in-None
returns-in-None g c =
    sym (ap (λ o. option_map_or (λ w. w.items) o [])
    (slice_get_past c.args.words.now c.args.index c.in-None.ensures.lookup.3))
