use Rattle.std.proofs.Common.{map, drop}
use Rattle.omf_alias.specs.Said.{renaming_said}
use Rattle.omf_record.specs.View.{external_view}
use Rattle.omf_plain.specs.Externals as externals
use Rattle.omf_plain.specs.Step.{alone}
use Rattle.omf_plain.proofs.Each.{Gathered}
use Rattle.omf_plain.proofs.externals.plain_externals.Given as goal

abbrev pub invariant-loop-external : goal.invariant-loop-external
invariant-loop-external g l =
    Gathered (λ e. alone (externals.plain_external (renaming_said l.renaming) e))
    (map external_view l.names) (map external_view (drop l.external-index l.names)) (map external_view l.all.items)
