-- Names that are offered, and by whom first.
use Rattle.std.specs.Prelude.{ℕ, List}
use Rattle.std.specs.declared.option.Option.{Option}
use Rattle.std.specs.Borrow.{Bor}
use Rattle.std.specs.BTreeMap.{get}
use Rattle.omf_keys.specs.Keys.{key_of, key_order}
use Rattle.omf_place.specs.declared.names.Names.{Names as Choice}
use Rattle.doslib_names.specs.declared.doubled.Doubled as lent_doubled
use Rattle.doslib_names.specs.declared.doubled.First.{First}
use Rattle.doslib_names.specs.declared.doubled.Offer as lent
use Rattle.doslib_names.specs.Names.{Doubled, Offer}

-- a name that is offered, and one that is again
abbrev pub offer_said : lent.Offer → Offer
offer_said o = record { name = o.name.now; offered_by = o.offered_by }

abbrev pub doubled_said : lent_doubled.Doubled → Doubled
doubled_said d = record { name = d.name.now; first = d.first; second = d.second }

-- the module that offers a name first, by a map whose keys are all of this choice
unfoldable pub first_by : {A : Type 0} → Choice → First A → Bor (List ℕ) → Option ℕ
first_by names m name = get key_order m.entries (key_of names name)
