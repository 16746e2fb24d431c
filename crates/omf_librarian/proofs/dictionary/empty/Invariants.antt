use Rattle.std.proofs.Common.{◌≡◌, ◌*◌, length}
use Rattle.std.specs.List.{repeat}
use Rattle.omf_librarian.specs.Entering.{empty_block}
use Rattle.omf_librarian.proofs.dictionary.empty.Given as goal

abbrev pub invariant-loop : goal.invariant-loop
invariant-loop g l = record {
  items : l.dictionary.items ≡ repeat l.counter empty_block;
  size : length l.dictionary.items ≡ 512 * l.counter;
}
