-- What a name means where some names stand for others (TIS OMF 1.1, "ALIAS": a reference to the one symbol is one to the
-- other).
use Rattle.std.specs.Prelude.{◌≡◌, ℕ, zero, suc, List, length, find, is_none, Some, None}
use Rattle.std.specs.declared.option.Option.{Option}
use Rattle.std.specs.Option.{option_map, option_map_or}
use Rattle.omf_place.specs.Names.{agrees}
use Rattle.omf_place.specs.declared.names.Names.{Names}
use Rattle.omf_alias.specs.Reading.{Alias}

-- aliases, under a choice of which names agree
pub record Renaming : Type 0 where
  pub names : Names
  pub aliases : List Alias

-- what a name stands for by the first alias that it agrees with
abbrev pub replacement : Renaming → (name : List ℕ) → Option (List ℕ)
replacement r name = option_map (λ a. a.meaning) (find (λ a. agrees r.names a.name name) r.aliases)

-- what it means by one alias behind the other, where these are fewer than so many
abbrev pub end_within : ℕ → Renaming → (name : List ℕ) → Option (List ℕ)
end_within zero r name = None
end_within (suc most) r name = option_map_or (end_within most r) (replacement r name) (Some name)

-- what it means. Where more aliases follow each other than there are, they go round for ever, and it means nothing
unfoldable pub meaning : Renaming → (name : List ℕ) → Option (List ℕ)
meaning r name = end_within (suc (length r.aliases)) r name

-- the first of some aliases whose name means nothing
abbrev pub endless : Renaming → List Alias → Option Alias
endless r aliases = find (λ a. is_none (meaning r a.name)) aliases

-- what a name means is no alias
abbrev pub IsEnd : Type 0
IsEnd = (r : Renaming) (name means : List ℕ) → meaning r name ≡ Some means → replacement r means ≡ None
