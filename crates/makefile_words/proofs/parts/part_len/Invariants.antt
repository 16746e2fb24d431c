use Rattle.std.proofs.Common.{◌≡◌, ◌+◌, false, length}
use Rattle.makefile_words.specs.Parts.{part_len}
use Rattle.makefile_words.proofs.parts.part_len.Given as goal

abbrev pub invariant-bytes : goal.invariant-bytes
invariant-bytes l = record {
  same : part_len l.mark false l.text ≡ l.len + part_len l.mark l.quoted l.rest;
  together : l.len + length l.rest ≡ length l.text;
}

abbrev pub decreases-bytes : goal.decreases-bytes
decreases-bytes l = length l.rest
