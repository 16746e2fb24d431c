use Rattle.std.proofs.Common.{◌∙◌, ap, length, sym, unwrap_or}
use Rattle.std.proofs.lemmas.List.{length-map}
use Rattle.std.specs.Prelude.{codes, position}
use Rattle.omf_order.specs.Plan.{is_of}
use Rattle.omf_order.specs.inside.Held.{part_view, parts_view}
use Rattle.omf_order.proofs.Behind.{bytes-turn, classes_met}
use Rattle.omf_order.proofs.Selecting.{place_or_len}
use Rattle.omf_order.proofs.planning.stack_follows.Goals as goal

pub is_followed-requires-clause-firsts : goal.is_followed-requires-clause-firsts
is_followed-requires-clause-firsts g c =
    c.deref-3.ensures.value ∙ c.in_ok-firsts.ensures
    ∙ classes_met _ (λ x y. bytes-turn x.now y.now) c.args.parts.now c.deref.result.now c.deref-2.result.now
    (c.deref.ensures.value ∙ c.in_ok-classes.ensures) (c.deref-2.ensures.value ∙ c.in_ok-classes.ensures)

pub is_followed-requires-clause-bss : goal.is_followed-requires-clause-bss
is_followed-requires-clause-bss g c =
    let ps = c.args.parts.now in
    c.unwrap_or-bss.ensures ∙ ap (λ o. unwrap_or o (length ps)) c.place_of_class.ensures.place
    ∙ ap (λ n. unwrap_or (position (is_of (codes "BSS")) (parts_view ps)) n) (sym (length-map ps part_view))
    ∙ place_or_len (is_of (codes "BSS")) (parts_view ps)
