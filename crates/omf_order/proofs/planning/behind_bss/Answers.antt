use Rattle.std.proofs.Common.{◌∙◌, ◌+◌, ap, length, sym}
use Rattle.std.proofs.lemmas.List.{length-map}
use Rattle.std.specs.Option.{option_map_or}
use Rattle.omf_order.specs.inside.Held.{part_view, parts_view}
use Rattle.omf_order.proofs.planning.behind_bss.Goals as goal

pub returns-in-Some-clause-place : goal.returns-in-Some-clause-place
returns-in-Some-clause-place c =
    ap (λ o. option_map_or (λ n. n + 1) o (length (parts_view c.args.parts.now))) c.in-Some.ensures.place

pub returns-in-None-clause-place : goal.returns-in-None-clause-place
returns-in-None-clause-place c =
    sym (length-map c.args.parts.now part_view)
    ∙ ap (λ o. option_map_or (λ n. n + 1) o (length (parts_view c.args.parts.now))) c.in-None.ensures.place
