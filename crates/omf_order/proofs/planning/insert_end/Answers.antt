use Rattle.std.proofs.Common.{◌≡◌, ◌∙◌, ap, insert}
use Rattle.omf_order.specs.Plan as planned
use Rattle.omf_order.specs.inside.Held.{part_view, parts_view}
use Rattle.omf_order.proofs.Lists.{map-insert}
use Rattle.omf_order.proofs.planning.insert_end.Goals as goal

pub returns : goal.returns
returns g c =
    let old = c.args.parts.now.items in
    let i = c.behind_bss-behind.result in
    let place : i ≡ planned.behind_bss (parts_view old) =
    c.behind_bss-behind.ensures.place ∙ ap (λ xs. planned.behind_bss (parts_view xs)) c.deref.ensures.value in
    ap parts_view c.in_ok-insert.ensures.items ∙ map-insert part_view old i c.new_part-part.result
    ∙ ap (λ n. insert (parts_view old) n (part_view c.new_part-part.result)) place
    ∙ ap (λ p. insert (parts_view old) (planned.behind_bss (parts_view old)) p) c.new_part-part.ensures
