use Rattle.std.proofs.Common.{◌≡◌, rules, ap}
use Rattle.std.proofs.lemmas.Fn.{always_returns_same}
use Rattle.std.specs.Cmp.Lexicographic.{slice_cmp}
use Rattle.std.specs.Ordering.{is_lt, nat_cmp}
use Rattle.link_map.specs.Public.{by_name}
use Rattle.link_map.specs.inside.Listed.{seen}
use Rattle.link_map.proofs.Orders.{before_name, names_weak, sorted-seen}
use Rattle.link_map.proofs.public.sort_by_name.Goals as goal

pub returns : goal.returns
returns g c =
    sorted-seen seen by_name names_weak c.args.listed.now.items _
    (c.in_ok-sort_by.ensures.sorted before_name names_weak
    (always_returns_same _ (λ a r. is_lt r ≡ before_name a.0.now a.1.0.now) _
    (λ a r f' k. (
      ap is_lt {y = slice_cmp nat_cmp a.0.now.name.now a.1.0.now.name.now} (search rules),
      search rules,
    ))))
    (c.sort_by.ensures.stable before_name names_weak
    (always_returns_same _ (λ a r. is_lt r ≡ before_name a.0.now a.1.0.now) _
    (λ a r f' k. (
      ap is_lt {y = slice_cmp nat_cmp a.0.now.name.now a.1.0.now.name.now} (search rules),
      search rules,
    ))))
