use Rattle.std.proofs.Common.{◌≡◌, ◌-◌, ◌≤◌, drop, length}
use Rattle.doslink_words.specs.Directives.{parts, with_aliases}
use Rattle.doslink_words.specs.Said.{aliases_of}
use Rattle.doslink_words.specs.inside.Tokens.{all_placed}
use Rattle.doslink_words.proofs.naming.put_aliases.Given as goal

abbrev pub invariant-parts : goal.invariant-parts
invariant-parts l = record {
  within : l.start ≤ length l.operands;
  same : with_aliases (aliases_of l.fn.aliases.items) (parts (all_placed l.operands))
      ≡ with_aliases (aliases_of l.aliases.items) (parts (drop l.start (all_placed l.operands)));
}

abbrev pub decreases-parts : goal.decreases-parts
decreases-parts l = length l.operands - l.start
