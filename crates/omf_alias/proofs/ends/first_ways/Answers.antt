use Rattle.std.proofs.Common.{ap, map, ◌∙◌, arith}
use Rattle.std.proofs.lemmas.List.{take_all}
use Rattle.omf_alias.proofs.Ways.{alias_way, first-ways}
use Rattle.omf_alias.proofs.ends.first_ways.Goals as goal

pub returns : goal.returns
returns g c =
    let aliases = c.args.aliases.now in
    let pushed = c.loop-alias.invariant ∙ ap (map alias_way) (take_all _ aliases (omega arith)) in
    first-ways c.args.names aliases c.loop-alias.ways.items _ pushed
    c.in_ok-sort_by_name.ensures.sorted c.in_ok-sort_by_name.ensures.kept
