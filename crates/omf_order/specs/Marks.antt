-- The names that mark where data ends, and where what has no data ends. Start-up code of compilers clears what is
-- between them.
use Rattle.std.specs.Prelude.{ℕ, Bool, not, ◌&&◌, List, [], ◌∷◌, filter, codes}
use Rattle.std.specs.List.{list_any}
use Rattle.omf_module.specs.Module.{Module, ExternalSymbol, PublicSymbol}
use Rattle.omf_place.specs.Names.{agrees}
use Rattle.omf_place.specs.declared.names.Names.{Names}

-- the names of the begin of class BSS in DGROUP
abbrev pub data_end_names : List (List ℕ)
data_end_names = codes "_edata" ∷ codes "__edata" ∷ []

-- the names of the end of class BSS in DGROUP
abbrev pub bss_end_names : List (List ℕ)
bss_end_names = codes "_end" ∷ codes "__end" ∷ []

module _ (names : Names) where
  -- a module wants a name of others
  abbrev pub is_external : List ℕ → Module → Bool
  is_external name module' =
      list_any (λ (e : ExternalSymbol). not e.local && agrees names e.name name) module'.externals

  -- a module defines a name for others
  abbrev pub is_public : List ℕ → Module → Bool
  is_public name module' =
      list_any (λ (p : PublicSymbol). not p.local && agrees names p.name name) module'.publics

  -- some module wants a name and none defines it
  abbrev pub is_wanted : List Module → List ℕ → Bool
  is_wanted program name = list_any (is_external name) program && not (list_any (is_public name) program)

  -- those of some names
  abbrev pub wanted : List Module → List (List ℕ) → List (List ℕ)
  wanted program asked = filter (is_wanted program) asked
