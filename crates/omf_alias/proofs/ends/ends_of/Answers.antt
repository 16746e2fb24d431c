use Rattle.std.proofs.Common.{◌≡◌, ap, map, ◌∙◌, arith}
use Rattle.std.proofs.lemmas.List.{length-map, take_all}
use Rattle.omf_alias.specs.Lent.{alias_said, aliases_said}
use Rattle.omf_alias.specs.Told.{end_said}
use Rattle.omf_alias.specs.inside.Ends.{way_said}
use Rattle.omf_alias.proofs.Ways.{way_told, ways-end}
use Rattle.omf_alias.proofs.ends.ends_of.Goals as goal

pub returns : goal.returns
returns g c =
    let names = c.args.names in
    let ways = c.in_ok-ways.ways.items in
    let lent = c.deref-way-items.result.now in
    let same : lent ≡ ways = c.deref-way-items.ensures.value in
    let all : map end_said c.loop-way.ends.items ≡ map (way_told names (map way_said lent)) lent =
    c.loop-way.invariant ∙ ap (map (way_told names (map way_said lent))) (take_all _ lent (omega arith)) in
    ways-end (record { names = names; aliases = aliases_said c.args.aliases.now }) _ ways c.loop-way.ends.items
    c.in_ok-ways.ensures (omega (arith, length-map c.args.aliases.now alias_said))
    (all ∙ ap (λ w. map (way_told names (map way_said w)) w) same)
