use Rattle.std.proofs.Common.{◌≡◌, rules}
use Rattle.std.proofs.lemmas.Fn.{always_returns_same}
use Rattle.link_map.specs.Detailed.{by_address}
use Rattle.link_map.specs.declared.part.ListedPart.{ListedPart}
use Rattle.link_map.specs.inside.Details.{part_seen}
use Rattle.link_map.proofs.Orders.{addresses_weak, sorted-seen}
use Rattle.link_map.proofs.part.sort_by_address.Goals as goal

pub returns : goal.returns
returns g c =
    sorted-seen part_seen by_address addresses_weak c.args.parts.now.items _
    (c.in_ok-sort_by_key.ensures.sorted (λ (l : ListedPart). l.address)
    (always_returns_same _ (λ a r. r ≡ a.0.now.address) _ (λ a r f' k. (search rules, search rules))))
    (c.sort_by_key.ensures.stable (λ (l : ListedPart). l.address)
    (always_returns_same _ (λ a r. r ≡ a.0.now.address) _ (λ a r f' k. (search rules, search rules))))
