use Rattle.std.proofs.Common.{◌≡◌, ◌-◌, ◌≤◌, drop, length}
use Rattle.doslink_words.specs.Directives.{parts, with_options}
use Rattle.doslink_words.specs.Said.{said_of}
use Rattle.doslink_words.specs.inside.Tokens.{all_placed}
use Rattle.doslink_words.proofs.options.follow_options.Given as goal

abbrev pub invariant-parts : goal.invariant-parts
invariant-parts l = record {
  within : l.start ≤ length l.operands;
  same : with_options l.line (parts (all_placed l.operands)) (said_of l.fn.directives)
      ≡ with_options l.line (parts (drop l.start (all_placed l.operands))) (said_of l.directives);
}

abbrev pub decreases-parts : goal.decreases-parts
decreases-parts l = length l.operands - l.start
