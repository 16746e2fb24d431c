use Rattle.std.proofs.Common.{◌≡◌, map, take}
use Rattle.omf_alias.specs.Layered.{said_of}
use Rattle.omf_alias.specs.Lent.{alias_said, aliases_said}
use Rattle.omf_alias.specs.Layers.{through}
use Rattle.omf_alias.proofs.aliases.all_through.Given as goal

abbrev pub invariant-loop-alias : goal.invariant-loop-alias
invariant-loop-alias g l =
    aliases_said l.through.items
    ≡ map (λ a. through (said_of l.names l.aliases) (alias_said a)) (take l.alias-index l.own)
