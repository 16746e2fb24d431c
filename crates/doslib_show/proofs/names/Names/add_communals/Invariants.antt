use Rattle.std.proofs.Common.{◌≡◌, map, take}
use Rattle.doslib_show.specs.Names.{with_externals}
use Rattle.doslib_show.specs.inside.Parts.{plain_names}
use Rattle.doslib_show.proofs.names.Names.add_communals.Given as goal

abbrev pub invariant-loop-communal : goal.invariant-loop-communal
invariant-loop-communal g l =
    plain_names l.self
    ≡ with_externals (plain_names l.initial.self) (map (λ c. c.name.now) (take l.communal-index l.communals))
