use Rattle.std.proofs.Common.{◌∙◌, ◌++◌, ◌∷◌, [], ap, sym}
use Rattle.std.proofs.lemmas.List.Elements.{filter-append}
use Rattle.omf_order.specs.Marks.{is_wanted, wanted}
use Rattle.omf_order.specs.inside.Held.{names_view}
use Rattle.omf_order.proofs.marks.wanted_names.Goals as goal

pub returns : goal.returns
returns g c =
    let W = wanted c.args.names c.args.modules.now in
    c.in_ok-push_wanted-2.ensures
    ∙ ap (λ ns. ns ++ W (c.args.other.now ∷ []))
    (c.in_ok-push_wanted.ensures ∙ ap (λ ns. names_view ns ++ W (c.args.one.now ∷ [])) c.new-wanted.ensures.items)
    ∙ sym (filter-append (is_wanted c.args.names c.args.modules.now) (c.args.one.now ∷ []) (c.args.other.now ∷ []))
