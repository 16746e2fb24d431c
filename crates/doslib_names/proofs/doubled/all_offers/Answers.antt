use Rattle.std.proofs.Common.{◌∙◌, ◌++◌, ap, append-nil, map, sym}
use Rattle.std.proofs.lemmas.List.{drop_all}
use Rattle.omf_library.specs.declared.names.ModuleNames.{ModuleNames}
use Rattle.omf_search.specs.Results.{bytes_of, needs_said}
use Rattle.doslib_names.specs.Names.{offer_by, offers_from}
use Rattle.doslib_names.specs.inside.First.{offer_said}
use Rattle.doslib_names.proofs.Offers.{offers-more}
use Rattle.doslib_names.proofs.doubled.all_offers.Goals as goal

pub loop-index-preserved : goal.loop-index-preserved
loop-index-preserved g c =
    offers-more needs_said c.args.names.now c.loop-index.index c.index-names-index.result _ _ _ c.loop-index-test.true
    ((rw c.deref.ensures.value at c.in_ok-push_offers.ensures)
    ∙ ap (λ (n : ModuleNames g.row.A.Denot).
    map offer_said c.loop-index.offers.items ++ map (offer_by c.loop-index.index) (bytes_of n.offered.items))
    c.index-names-index.is)
    c.loop-index.invariant

pub returns : goal.returns
returns g c =
    sym (append-nil (map offer_said c.loop-index.offers.items))
    ∙ ap (λ l. map offer_said c.loop-index.offers.items ++ offers_from c.loop-index.index (map needs_said l))
    (sym (drop_all c.loop-index.index c.args.names.now c.loop-index-test.false))
    ∙ c.loop-index.invariant
