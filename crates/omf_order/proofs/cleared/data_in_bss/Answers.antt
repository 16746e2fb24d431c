use Rattle.std.proofs.Common.{◌∙◌, List, Option, ap, slice_get, sym, take}
use Rattle.std.proofs.lemmas.List.{take-map}
use Rattle.std.specs.List.{enumerate_from, flat_map}
use Rattle.std.specs.Option.{option_and_then}
use Rattle.omf_place.proofs.Results.{IfOk-map}
use Rattle.omf_order.specs.Cleared.{Lost, lost_in}
use Rattle.omf_order.specs.Parts.{Part}
use Rattle.omf_order.specs.inside.Held.{part_view, parts_view}
use Rattle.omf_order.proofs.cleared.data_in_bss.Goals as goal

pub returns-in-Some : goal.returns-in-Some
returns-in-Some g c =
    let ms = c.args.modules.now in
    let items = c.args.plan.now.parts.items in
    let first : List Part → Option Lost = λ ps. slice_get (flat_map (lost_in ps) (enumerate_from 0 ms)) 0 in
    let start = c.in-Some.start in
    IfOk-map _ _ c.lost_behind.result (λ lost e. e
    ∙ ap first
    (ap parts_view (c.parts_before.ensures ∙ ap (take start) c.deref.ensures.value) ∙ sym (take-map part_view start items))
    ∙ ap (option_and_then (λ n. first (take n (parts_view items)))) (sym c.in-Some.is ∙ c.clears_from.ensures))
    c.lost_behind.ensures
