-- Which names of publics and externals agree, and what a name means.
use Rattle.std.specs.Prelude.{ℕ, Bool, List, map, find, Option, option_map}
use Rattle.std.specs.Char.{to_ascii_lowercase}
use Rattle.std.specs.Str.{bytes_eq}
use Rattle.omf_place.specs.declared.names.Names.{Names}
use Rattle.omf_place.specs.declared.names.Names.TheVariants.{Exact, AsciiFolded}

-- what of a name counts: its bytes, or what they are once 41H to 5AH have become 61H to 7AH
abbrev pub spelled : Names → List ℕ → List ℕ
spelled Exact name = name
spelled AsciiFolded name = map to_ascii_lowercase name

-- two names are one
abbrev pub agrees : Names → (one other : List ℕ) → Bool
agrees names one other = bytes_eq (spelled names one) (spelled names other)

-- names with their values, as they were read and in order, under a choice of which agree
pub record Table (V : Type 0) : Type 0 where
  pub names : Names
  pub entries : List (List ℕ × V)

-- the value of the first entry whose name agrees: where no two agree, of the only one
abbrev pub means : {V : Type 0} → Table V → (name : List ℕ) → Option V
means t name = option_map (λ e. e.1) (find (λ e. agrees t.names name e.0) t.entries)
