use Rattle.std.proofs.Common.{rules, ◌<◌, ◌∙◌, ◌++◌, ap, length, map, sym}
use Rattle.std.proofs.lemmas.List.{map_push}
use Rattle.doslib_names.specs.Names.{offer_by}
use Rattle.doslib_names.specs.inside.First.{offer_said}
use Rattle.doslib_names.proofs.Lists.{mapped-all, mapped-more, twice-mapped}
use Rattle.doslib_names.proofs.doubled.push_offers.Goals as goal

pub loop-name-preserved : goal.loop-name-preserved
loop-name-preserved g c =
    let here : c.loop-name.name-index < length c.args.names.now = search rules in
    mapped-more (λ n. offer_by c.args.offered_by n.now) c.args.names.now c.loop-name.name-index _ _ _ _ here
    (ap (map offer_said) c.in_ok-push.ensures.items ∙ map_push offer_said c.loop-name.offers.items _)
    c.loop-name.invariant

pub returns : goal.returns
returns g c =
    mapped-all (λ n. offer_by c.args.offered_by n.now) c.args.names.now c.loop-name.name-index _ _
    c.loop-name-test.false c.loop-name.invariant
    ∙ ap (λ l. map offer_said c.args.offers.now.items ++ l)
    (sym (twice-mapped (offer_by c.args.offered_by) (λ n. n.now) c.args.names.now))
