-- The names that stay missing.
use Rattle.std.specs.Prelude.{Bool, not, ◌==◌, ◌&&◌, List, [], ◌∷◌, filter}
use Rattle.omf_place.specs.Names.{agrees}
use Rattle.omf_place.specs.declared.names.Names.{Names}
use Rattle.omf_search.specs.Said.{Module, Wanted, is_defined}
use Rattle.omf_search.specs.Wanted.{wanted_names}

-- two wanted names are one: of one module, and they agree
abbrev pub is_same : Names → Wanted → Wanted → Bool
is_same names v w = v.wanted_by == w.wanted_by && agrees names v.name w.name

-- the first of those that are one, in order
abbrev pub distinct : Names → List Wanted → List Wanted
distinct names [] = []
distinct names (w ∷ ws) = w ∷ filter (λ v. not (is_same names v w)) (distinct names ws)

-- the names that modules want and none defines, each once for each module that wants it
abbrev pub missing_names : Names → List Module → List Wanted
missing_names names ms = distinct names (filter (λ w. not (is_defined names ms w.name)) (wanted_names names ms))
