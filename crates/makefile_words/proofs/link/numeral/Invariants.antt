use Rattle.std.proofs.Common.{◌≡◌, ◌≤◌, drop}
use Rattle.doslink_words.specs.Sizes.{digits_behind}
use Rattle.makefile_words.proofs.link.numeral.Given as goal

abbrev pub invariant-digits : goal.invariant-digits
invariant-digits l = record {
  small : l.value ≤ 1_048_576;
  same : digits_behind l.radix 0 l.digits ≡ digits_behind l.radix l.value (drop l.byte-index l.digits);
}
