use Rattle.std.proofs.Common.{ℕ, List, Bor}
use Rattle.omf_library.specs.Names.{texts}
use Rattle.omf_library.specs.Wanting.{place_of}
use Rattle.omf_library.proofs.Wanted.{IsPlaced}
use Rattle.omf_library.proofs.wanting.wanting_places.Given as goal

abbrev pub invariant-loop-frame : goal.invariant-loop-frame
invariant-loop-frame g l =
    (q : Bor (List ℕ)) → IsPlaced q.now l.frames l.frame-index (texts l.listed.items) (place_of l.places q)
