-- One step of asking for a name, as the code takes it.
use Rattle.std.specs.Prelude.{ℕ, List, [], ◌∷◌, None, Some, if◌then◌else◌}
use Rattle.std.specs.declared.option.Option.{Option}
use Rattle.std.specs.Option.{option_map_or}
use Rattle.omf_place.specs.declared.names.Names.{Names}
use Rattle.omf_search.specs.Wanted.{Met, ask_up_to, is_asked, stands_for, with_asked, with_wanted}

-- a name is asked for, without the one that is asked for in turn, which stands beside it
abbrev pub once : Names → Met → (name : List ℕ) → Met × Option (List ℕ)
once names s name =
    if is_asked names s name then (s, None)
    else option_map_or (λ w. (with_wanted (w ∷ []) (with_asked name s), Some w.name)) (stands_for names s name)
    (with_asked name s, None)

-- that one is asked for, so many names at most
abbrev pub then_ask : Names → ℕ → Met × Option (List ℕ) → Met
then_ask names most (s, None) = s
then_ask names most (s, Some name) = ask_up_to names most s name
