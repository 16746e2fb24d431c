use Rattle.std.proofs.Common.{◌≡◌, IfOk, ap, map, subst, sym, ◌∙◌}
use Rattle.std.specs.Option.{option_map}
use Rattle.omf_search.specs.declared.said.Wanted.{Wanted}
use Rattle.omf_search.specs.Likeness.{first_like}
use Rattle.omf_search.specs.Results.{bytes_of, member_said, module_said, offered_said}
use Rattle.doslink_stock.proofs.Walks.{map-map}
use Rattle.doslink_stock.specs.Files.{needs}
use Rattle.doslink_stock.specs.Search.{candidates}
use Rattle.doslink_stock.specs.Seen.{entry_held, handed_held}
use Rattle.doslink_telling.proofs.missing.likes_of.Goals as goal

pub returns : goal.returns
returns g c =
    let handed = c.args.handed.now in
    let missing = c.args.missing.now in
    let names = bytes_of c.deref-2.result.now in
    let linked = map needs (map handed_held handed) in
    let members = candidates (map entry_held c.args.stock.now.members.items) in
    let modules-are : map module_said c.deref-3.result.now ≡ linked =
    ap (map module_said) c.deref-3.ensures.value ∙ c.in_ok-modules.ensures
    ∙ map-map handed_held needs handed in
    let members-are : map member_said c.deref-4.result.now ≡ members =
    ap (map member_said) c.deref-4.ensures.value ∙ c.in_ok-members.ensures
    ∙ ap (λ l. candidates (map entry_held l)) c.deref.ensures.value in
    let names-are : names ≡ map (λ (w : Wanted). w.name.now) missing =
    ap bytes_of c.deref-2.ensures.value ∙ c.in_ok-names.ensures in
    subst (λ l. IfOk c.likes.result (λ v. map (option_map offered_said) v.items ≡ l))
    (ap (λ l. map (first_like l (map member_said c.deref-4.result.now)) names) modules-are
    ∙ ap (λ l. map (first_like linked l) names) members-are ∙ ap (map (first_like linked members)) names-are
    ∙ sym (map-map (λ (w : Wanted). w.name.now) (first_like linked members) missing))
    c.likes.ensures
