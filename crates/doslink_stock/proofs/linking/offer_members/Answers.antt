use Rattle.std.proofs.Common.{◌≡◌, ◌∙◌, List, ap, arith, map, subst, sym, take}
use Rattle.std.proofs.lemmas.List.{take_all}
use Rattle.omf_search.specs.Results.{names_said}
use Rattle.omf_search.specs.Search.{Member}
use Rattle.omf_search.specs.Searching.{IsSearch}
use Rattle.doslink_stock.specs.declared.stock.Entry.{Entry}
use Rattle.doslink_stock.specs.Search.{candidate, candidates}
use Rattle.doslink_stock.specs.Seen.{entry_held}
use Rattle.doslink_stock.proofs.Places.{candidates-more, front-length}
use Rattle.doslink_stock.proofs.linking.offer_members.Goals as goal

pub loop-index-preserved : goal.loop-index-preserved
loop-index-preserved g c = λ names ms is.
    let members = c.args.members.now in
    let i = c.loop-index.index in
    let entry = c.index-members-index.result in
    subst (λ (bs : List Member). IsSearch names ms bs c.add_member.new.self)
    (sym (candidates-more entry_held members i entry c.loop-index-test.true c.index-members-index.is))
    (c.in_ok-add_member.ensures names ms (candidates (map entry_held (take i members)))
    (candidate (i, entry_held entry)) (front-length entry_held members i c.loop-index-test.true) (ap (λ (e : Entry g.row.A.Denot). names_said e.says) c.index-members-index.is ∙ sym c.of.ensures)
    (c.loop-index.invariant names ms is))

pub returns : goal.returns
returns g c = λ names ms is.
    subst (λ (l : List (Entry g.row.A.Denot)). IsSearch names ms (candidates (map entry_held l)) c.loop-index.search)
    (take_all c.loop-index.index c.args.members.now (omega arith)) (c.loop-index.invariant names ms is)
