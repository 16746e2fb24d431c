-- What modules want, in order of meeting: the names of their externals, and what the aliases stand for that are used. An
-- alias counts where there is none of its name before it, and is used where its name is asked for: an external has it,
-- weak ones and communal variables too, or a used alias stands for it. What it stands for is wanted by its module, from
-- where that is so.
use Rattle.std.specs.Prelude.{ℕ, zero, suc, Bool, if◌then◌else◌, List, [], ◌∷◌, ◌++◌, find, is_some, length, map}
use Rattle.std.specs.declared.option.Option.{Option}
use Rattle.std.specs.List.{enumerate_from, fold, list_any}
use Rattle.std.specs.Option.{option_map, option_map_or}
use Rattle.omf_library.specs.Aliases.{Alias}
use Rattle.omf_place.specs.Names.{agrees}
use Rattle.omf_place.specs.declared.names.Names.{Names}
use Rattle.omf_search.specs.Said.{Module, Wanted}

-- what a module's externals want, the index being its own
abbrev pub wanted_of : ℕ × Module → List Wanted
wanted_of p = map (λ n. record { name = n; wanted_by = p.0 }) p.1.wanted

-- what was met of modules so far: the names that were asked for, the aliases that count, each with what it stands for as
-- its module wants it, and all that is wanted
pub record Met : Type 0 where
  pub asked : List (List ℕ)
  pub aliases : List (List ℕ × Wanted)
  pub wanted : List Wanted

-- nothing
abbrev pub nothing_met : Met
nothing_met = record { asked = []; aliases = []; wanted = [] }

-- the same, and another name that is asked for, another alias, or others that are wanted
abbrev pub with_asked : (name : List ℕ) → Met → Met
with_asked name s = record { asked = s.asked ++ name ∷ []; aliases = s.aliases; wanted = s.wanted }

abbrev pub with_alias : (name : List ℕ) → Wanted → Met → Met
with_alias name w s = record { asked = s.asked; aliases = s.aliases ++ (name, w) ∷ []; wanted = s.wanted }

abbrev pub with_wanted : List Wanted → Met → Met
with_wanted ws s = record { asked = s.asked; aliases = s.aliases; wanted = s.wanted ++ ws }

module _ (names : Names) where
  -- a name was asked for
  abbrev pub is_asked : Met → (name : List ℕ) → Bool
  is_asked s name = list_any (agrees names name) s.asked

  -- what a name stands for
  abbrev pub stands_for : Met → (name : List ℕ) → Option Wanted
  stands_for s name = option_map (λ a. a.1) (find (λ a. agrees names name a.0) s.aliases)

  -- a name is asked for: where that is so for the first time, what it stands for is wanted, and asked for in turn; so
  -- many names at most
  abbrev pub ask_up_to : ℕ → Met → (name : List ℕ) → Met
  ask_up_to zero s name = s
  ask_up_to (suc most) s name =
      if is_asked s name then s
      else option_map_or (λ w. ask_up_to most (with_wanted (w ∷ []) (with_asked name s)) w.name) (stands_for s name)
      (with_asked name s)

  -- each alias is followed once
  unfoldable pub ask : Met → (name : List ℕ) → Met
  ask s name = ask_up_to (suc (length s.aliases)) s name

  -- an alias of the module with this index is met
  unfoldable pub add_alias : (index : ℕ) → Met → Alias → Met
  add_alias index s a =
      let w : Wanted = record { name = a.meaning; wanted_by = index } in
      if is_some (stands_for s a.name) then s
      else if is_asked s a.name then ask (with_wanted (w ∷ []) (with_alias a.name w s)) a.meaning
      else with_alias a.name w s

  -- a module is met, with its index: what its externals want, the names that these ask for, and its aliases
  unfoldable pub add_module : Met → ℕ × Module → Met
  add_module s p =
      fold (add_alias p.0) (fold ask (fold ask (with_wanted (wanted_of p) s) p.1.externals) p.1.communals) p.1.aliases

  -- what was met of modules
  unfoldable pub met : List Module → Met
  met ms = fold add_module nothing_met (enumerate_from 0 ms)

  -- what they want
  abbrev pub wanted_names : List Module → List Wanted
  wanted_names ms = (met ms).wanted
