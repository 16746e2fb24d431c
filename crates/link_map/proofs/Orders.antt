-- Publics in the order of their names, and of where they stand, and parts of segments in that of their addresses.
use Rattle.std.proofs.Common.{◌≡◌, ◌∙◌, Bool, List, map, ap}
use Rattle.std.proofs.lemmas.List.Sorted.{ranks_by}
use Rattle.std.specs.Cmp.{IsStrictWeakOrder, IsTotalOrder, nat_cmp_total, on_total, then_total}
use Rattle.std.specs.Cmp.Lexicographic.{nat_list_cmp_total}
use Rattle.std.specs.List.Sorted.{IsSortedBy, IsStableBy}
use Rattle.std.specs.Ordering.{nat_cmp, ordering_then}
use Rattle.std.specs.declared.cmp.Ordering.{Ordering}
use Rattle.link_map.specs.Detailed.{by_address}
use Rattle.link_map.specs.Ordered.{ordered}
use Rattle.link_map.specs.Public.{by_name, by_value}
use Rattle.link_map.specs.declared.part.ListedPart.{ListedPart}
use Rattle.link_map.specs.declared.public.ListedPublic.{ListedPublic}
use Rattle.link_map.specs.inside.Details.{part_seen}
use Rattle.link_map.specs.inside.Listed.{seen}
use Rattle.link_map.proofs.InOrder.{ordered-is, ordered-map}

abbrev pub before_name : ListedPublic → ListedPublic → Bool
before_name one other = by_name (seen one) (seen other)

pub names_weak : IsStrictWeakOrder before_name
names_weak = ranks_by nat_list_cmp_total (λ (l : ListedPublic). l.name.now)

abbrev pub before_value : ListedPublic → ListedPublic → Bool
before_value one other = by_value (seen one) (seen other)

abbrev pub value_cmp : ListedPublic → ListedPublic → Ordering
value_cmp one other = ordering_then (nat_cmp one.frame other.frame) (nat_cmp one.offset other.offset)

value_cmp_total : IsTotalOrder value_cmp
value_cmp_total =
    then_total (on_total (λ (l : ListedPublic). l.frame) nat_cmp_total)
    (on_total (λ (l : ListedPublic). l.offset) nat_cmp_total)

pub values_weak : IsStrictWeakOrder before_value
values_weak = ranks_by value_cmp_total (λ l. l)

abbrev pub before_address : ListedPart → ListedPart → Bool
before_address one other = by_address (part_seen one) (part_seen other)

pub addresses_weak : IsStrictWeakOrder before_address
addresses_weak = ranks_by nat_cmp_total (λ (l : ListedPart). l.address)

-- what a stable sort made of the items, as they are seen
pub sorted-seen : {X Y : Type 0} (seen : X → Y) (less : Y → Y → Bool)
    → IsStrictWeakOrder (λ one other. less (seen one) (seen other))
    → (xs ys : List X) → IsSortedBy (λ one other. less (seen one) (seen other)) ys
    → IsStableBy (λ one other. less (seen one) (seen other)) xs ys → map seen ys ≡ ordered less (map seen xs)
sorted-seen seen less o xs ys up stable =
    ap (map seen) (ordered-is (λ one other. less (seen one) (seen other)) o xs ys up stable)
    ∙ ordered-map seen less xs
