use Rattle.std.proofs.Common.{◌≡◌, map, take}
use Rattle.doslib_show.specs.Names.{with_externals}
use Rattle.doslib_show.specs.inside.Parts.{plain_names}
use Rattle.doslib_show.proofs.names.Names.add_externals.Given as goal

abbrev pub invariant-loop-external : goal.invariant-loop-external
invariant-loop-external g l =
    plain_names l.self
    ≡ with_externals (plain_names l.initial.self) (map (λ e. e.name.now) (take l.external-index l.externals))
