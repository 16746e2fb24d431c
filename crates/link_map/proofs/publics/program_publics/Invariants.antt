use Rattle.std.proofs.Common.{◌≡◌, take}
use Rattle.link_map.specs.Publics.{publics}
use Rattle.link_map.specs.inside.Listed.{all_seen}
use Rattle.link_map.proofs.publics.program_publics.Given as goal

abbrev pub invariant-loop-module : goal.invariant-loop-module
invariant-loop-module g l = all_seen l.listed.items ≡ publics (take l.module-index l.modules) l.layout
