-- Values by names.
use Rattle.std.specs.Prelude.{ℕ, List}
use Rattle.std.specs.declared.option.Option.{Option}
use Rattle.std.specs.Borrow.{Bor}
use Rattle.std.specs.BTreeMap.{btree_map_len, get}
use Rattle.omf_place.specs.declared.names.Names.{Names}
use Rattle.omf_keys.specs.Keys.{key_of, key_order}
use Rattle.omf_search.specs.declared.name_map.NameMap.{NameMap}

-- the value that a map has for a name, whose keys are all of this choice
unfoldable pub value_of : {V A : Type 0} → Names → NameMap V A → Bor (List ℕ) → Option V
value_of names m name = get key_order m.entries (key_of names name)

-- how many names it has
unfoldable pub size : {V A : Type 0} → NameMap V A → ℕ
size m = btree_map_len m.entries
