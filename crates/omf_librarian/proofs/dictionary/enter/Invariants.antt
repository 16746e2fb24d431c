use Rattle.omf_librarian.specs.inside.Views.{entry_view, hash_view}
use Rattle.omf_librarian.proofs.Filling.{EnterLeft}
use Rattle.omf_librarian.proofs.dictionary.enter.Given as goal

abbrev pub invariant-loop : goal.invariant-loop
invariant-loop l =
    EnterLeft l.blocks l.initial.dictionary l.dictionary (hash_view l.hash) (entry_view l.entry) l.block l.counter
