use Rattle.std.proofs.Common.{◌∙◌, ◌||◌, ap, sym, get_or, false}
use Rattle.std.specs.List.{list_any}
use Rattle.std.proofs.lemmas.List.{drop_all}
use Rattle.std.proofs.lemmas.List.FromFn.{fill_by_all}
use Rattle.byte_places.specs.Gaps.{is_in}
use Rattle.byte_places.proofs.Spanning.{or-nothing}
use Rattle.byte_places.proofs.spans.flags_of.Goals as goal

pub returns : goal.returns
returns g c =
    let loop = c.loop-span in
    let spans = c.args.spans.now in
    let flags = loop.flags.items in
    fill_by_all (λ place. list_any (is_in place) spans) flags c.args.len false loop.invariant.len
    (λ k h. sym (or-nothing (get_or flags k false))
    ∙ ap (λ l. get_or flags k false || list_any (is_in k) l)
    (sym (drop_all loop.span-index spans c.loop-span-test.false))
    ∙ loop.invariant.flagged k h)
