-- The aliases of a module: the entries of its records of type C6H (TIS OMF 1.1, "ALIAS"), each a name and the one that
-- it stands for.
use Rattle.std.specs.Prelude.{ℕ, ◌==◌, if◌then◌else◌, List, []}
use Rattle.std.specs.declared.option.Option.{Option}
use Rattle.std.specs.List.{flat_map}
use Rattle.std.specs.Option.{option_map, option_and_then}
use Rattle.omf_frame.specs.Frame.{Frame}
use Rattle.omf_library.specs.Entries.{entries}
use Rattle.omf_library.specs.Fields.{name_front}

-- a name, the name that it stands for, and the place of its record
pub record Alias : Type 0 where
  pub place : ℕ
  pub name : List ℕ
  pub meaning : List ℕ

-- the entry at the front of the bytes, in the record at a place, and the bytes behind it
abbrev pub alias_entry_front : ℕ → List ℕ → Option (Alias × List ℕ)
alias_entry_front place bytes = option_and_then
    (λ (name, rest). option_map
    (λ (meaning, after). (record { place = place; name = name; meaning = meaning }, after)) (name_front rest))
    (name_front bytes)

-- the aliases of a record
unfoldable pub aliases_in : Frame → List Alias
aliases_in f = if f.kind == 0xC6 then entries (alias_entry_front f.place) f.body else []

-- those of records, in their order
unfoldable pub aliases_of : List Frame → List Alias
aliases_of records = flat_map aliases_in records
