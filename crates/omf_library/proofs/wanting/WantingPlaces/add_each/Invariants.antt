use Rattle.std.proofs.Common.{◌≡◌, ℕ, List, Bor, Some, None, cond, take}
use Rattle.std.specs.Option.{option_or}
use Rattle.omf_library.specs.Names.{texts}
use Rattle.omf_library.specs.Defaults.{is_among}
use Rattle.omf_library.specs.Wanting.{place_of}
use Rattle.omf_library.proofs.wanting.WantingPlaces.add_each.Given as goal

abbrev pub invariant-loop-name : goal.invariant-loop-name
invariant-loop-name g l = (q : Bor (List ℕ)) → place_of l.self q
    ≡ option_or (place_of l.initial.self q)
    (cond (is_among q.now (texts (take l.name-index l.fn.names))) (Some l.fn.place) None)
