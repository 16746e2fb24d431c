use Rattle.std.proofs.Common.{map, drop}
use Rattle.omf_alias.specs.Said.{renaming_said}
use Rattle.omf_library.specs.Names.{texts}
use Rattle.omf_record.specs.View.{external_view}
use Rattle.omf_plain.specs.Externals as externals
use Rattle.omf_plain.specs.Step.{alone}
use Rattle.omf_plain.proofs.Each.{Gathered}
use Rattle.omf_plain.proofs.externals.listed_externals.Given as goal

abbrev pub invariant-loop-one : goal.invariant-loop-one
invariant-loop-one g l =
    Gathered (λ e. alone (externals.plain_listed (renaming_said l.renaming) (texts l.names) e))
    l.listed (drop l.one-index l.listed) (map external_view l.all.items)
