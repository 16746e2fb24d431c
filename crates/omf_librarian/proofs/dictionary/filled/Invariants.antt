use Rattle.std.proofs.Common.{◌≡◌, ◌*◌, drop, length, map}
use Rattle.omf_librarian.specs.Entering.{all_entered, filled}
use Rattle.omf_librarian.specs.inside.Views.{entry_view}
use Rattle.omf_librarian.proofs.dictionary.filled.Given as goal

abbrev pub invariant-loop-entry : goal.invariant-loop-entry
invariant-loop-entry g l = record {
  size : length l.dictionary.items ≡ 512 * l.blocks;
  same : all_entered l.blocks l.dictionary.items (map entry_view (drop l.entry-index l.entries))
      ≡ filled l.blocks (map entry_view l.entries);
}
