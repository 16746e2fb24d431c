use Rattle.std.proofs.Common.{◌≡◌, drop, map}
use Rattle.omf_librarian.specs.Entering.{dictionary_of, first_filled, primes}
use Rattle.omf_librarian.specs.inside.Views.{entry_view}
use Rattle.omf_librarian.proofs.dictionary.dictionary_of.Given as goal

abbrev pub invariant-loop-blocks : goal.invariant-loop-blocks
invariant-loop-blocks g l =
    first_filled (drop l.blocks-index primes) (map entry_view l.entries) ≡ dictionary_of (map entry_view l.entries)
