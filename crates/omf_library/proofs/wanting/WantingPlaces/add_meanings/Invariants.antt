use Rattle.std.proofs.Common.{◌≡◌, ℕ, List, Bor, Some, None, cond, take}
use Rattle.std.specs.Option.{option_or}
use Rattle.omf_library.specs.Said.{aliases_said}
use Rattle.omf_library.specs.Wanting.{is_meant}
use Rattle.omf_library.specs.Wanting.{place_of}
use Rattle.omf_library.proofs.wanting.WantingPlaces.add_meanings.Given as goal

abbrev pub invariant-loop-alias : goal.invariant-loop-alias
invariant-loop-alias g l = (q : Bor (List ℕ)) → place_of l.self q
    ≡ option_or (place_of l.initial.self q)
    (cond (is_meant q.now (aliases_said (take l.alias-index l.fn.aliases))) (Some l.fn.place) None)
