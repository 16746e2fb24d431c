use Rattle.std.proofs.Common.{◌≡◌, ◌-◌, ◌≤◌, drop, length}
use Rattle.doslink_words.specs.Directives.{parts, with_names}
use Rattle.doslink_words.specs.Tokens.{texts}
use Rattle.doslink_words.specs.inside.Tokens.{all_placed}
use Rattle.doslink_words.proofs.operands.put_names.Given as goal

abbrev pub invariant-parts : goal.invariant-parts
invariant-parts l = record {
  within : l.start ≤ length l.operands;
  same : with_names (texts l.fn.names.items) (parts (all_placed l.operands))
      ≡ with_names (texts l.names.items) (parts (drop l.start (all_placed l.operands)));
}

abbrev pub decreases-parts : goal.decreases-parts
decreases-parts l = length l.operands - l.start
