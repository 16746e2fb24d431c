use Rattle.std.proofs.Common.{◌≡◌, rules, ap}
use Rattle.std.proofs.lemmas.Fn.{always_returns_same}
use Rattle.std.specs.Ordering.{is_lt}
use Rattle.link_map.specs.Public.{by_value}
use Rattle.link_map.specs.inside.Listed.{seen}
use Rattle.link_map.proofs.Orders.{before_value, value_cmp, values_weak, sorted-seen}
use Rattle.link_map.proofs.public.sort_by_value.Goals as goal

pub returns : goal.returns
returns g c =
    sorted-seen seen by_value values_weak c.args.listed.now.items _
    (c.in_ok-sort_by.ensures.sorted before_value values_weak
    (always_returns_same _ (λ a r. is_lt r ≡ before_value a.0.now a.1.0.now) _
    (λ a r f' k. (ap is_lt {y = value_cmp a.0.now a.1.0.now} (search rules), search rules))))
    (c.sort_by.ensures.stable before_value values_weak
    (always_returns_same _ (λ a r. is_lt r ≡ before_value a.0.now a.1.0.now) _
    (λ a r f' k. (ap is_lt {y = value_cmp a.0.now a.1.0.now} (search rules), search rules))))
