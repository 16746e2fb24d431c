use Rattle.std.proofs.Common.{◌≡◌, map, drop, find, is_none}
use Rattle.omf_alias.specs.Meaning.{meaning}
use Rattle.omf_alias.specs.Said.{alias_said, renaming_said}
use Rattle.omf_alias.proofs.names.endless.Given as goal

abbrev pub invariant-loop-alias : goal.invariant-loop-alias
invariant-loop-alias l =
    find (λ a. is_none (meaning (renaming_said l.fn.renaming) a.name))
    (map alias_said (drop l.alias-index l.fn.aliases))
    ≡ find (λ a. is_none (meaning (renaming_said l.fn.renaming) a.name)) (map alias_said l.fn.aliases)
