use Rattle.std.proofs.Common.{map, drop}
use Rattle.omf_alias.specs.Said.{renaming_said}
use Rattle.omf_record.specs.View.{external_view}
use Rattle.omf_wide.specs.Communals as wide
use Rattle.omf_plain.specs.Externals as externals
use Rattle.omf_plain.specs.Step.{alone}
use Rattle.omf_plain.proofs.Each.{Gathered}
use Rattle.omf_plain.proofs.externals.communal_externals.Given as goal

abbrev pub invariant-loop-communal : goal.invariant-loop-communal
invariant-loop-communal g l =
    Gathered (λ c. alone (externals.plain_communal (renaming_said l.renaming) l.local c c.extent))
    (map wide.plain_communal l.entries) (map wide.plain_communal (drop l.communal-index l.entries)) (map external_view l.all.items)
