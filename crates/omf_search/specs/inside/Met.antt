-- Wanted names as keys.
use Rattle.std.specs.Prelude.{Bool, ◌==◌, ◌&&◌}
use Rattle.std.specs.declared.cmp.Ordering.{Ordering}
use Rattle.std.specs.Ordering.{nat_cmp, ordering_then}
use Rattle.omf_search.specs.declared.unmet.WantedKey.{WantedKey}
use Rattle.omf_keys.specs.Keys.{key_order, same_key}

-- two wanted names are one
abbrev pub same_wanted : WantedKey → WantedKey → Bool
same_wanted x y = x.wanted_by == y.wanted_by && same_key x.key y.key

-- how one stands to another one
abbrev pub wanted_order : WantedKey → WantedKey → Ordering
wanted_order x y = ordering_then (nat_cmp x.wanted_by y.wanted_by) (key_order x.key y.key)
