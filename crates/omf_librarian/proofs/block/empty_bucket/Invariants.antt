use Rattle.omf_librarian.specs.inside.Views.{hash_view}
use Rattle.omf_librarian.proofs.Filling.{EmptyLeft}
use Rattle.omf_librarian.proofs.block.empty_bucket.Given as goal

abbrev pub invariant-loop : goal.invariant-loop
invariant-loop l = EmptyLeft l.block (hash_view l.hash) l.bucket l.counter
