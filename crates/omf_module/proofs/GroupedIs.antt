-- What a module is with the segments of a class in a group, by which segments join.
use Rattle.std.proofs.Common.{◌≡◌, ℕ, ◌+◌, Bool, true, false, ◌&&◌, List, [], ◌∷◌, ◌++◌, length, map, Option}
use Rattle.std.proofs.Common.{refl, sym, ap, ◌∙◌, nat_lt}
use Rattle.std.specs.Prelude.{if◌then◌else◌}
use Rattle.std.specs.List.{list_any}
use Rattle.std.specs.Option.{option_map}
use Rattle.omf_module.specs.declared.Start.{Start}
use Rattle.omf_module.specs.Module.{Module}
use Rattle.omf_module.specs.Grouped.{greatest_index, joining, members, public_in, data_in, start_in}
use Rattle.omf_module.specs.Grouped.{with_part, grouped}
use Rattle.omf_module.specs.inside.Store.{Kept}

-- some of these join
abbrev pub some_of : List Bool → Bool
some_of joined = list_any (λ joins. joins) joined

module _ (class : List ℕ) (m : Module) (joined : List Bool) (is : joined ≡ joining class m.segments m.groups) where
  abbrev own : List Bool
  own = joining class m.segments m.groups

  wants : (b : Bool) → (some_of joined && nat_lt (length m.groups) greatest_index) ≡ b
      → (some_of own && nat_lt (length m.groups) greatest_index) ≡ b
  wants b e = ap (λ js. some_of js && nat_lt (length m.groups) greatest_index) (sym is) ∙ e

  pub grouped_is : (name : List ℕ) → (some_of joined && nat_lt (length m.groups) greatest_index) ≡ true
      → with_part joined (length m.groups + 1) name m ≡ grouped class name m
  grouped_is name e =
      ap (λ js. with_part js (length m.groups + 1) name m) is
      ∙ sym (ap (λ (b : Bool). if b then with_part own (length m.groups + 1) name m else m) (wants true e))

  pub stays_as_it_is : (name : List ℕ) → (some_of joined && nat_lt (length m.groups) greatest_index) ≡ false
      → m ≡ grouped class name m
  stays_as_it_is name e =
      sym (ap (λ (b : Bool). if b then with_part own (length m.groups + 1) name m else m) (wants false e))

-- the module of these tables and this start
abbrev pub module_of : Kept → Option Start → Module
module_of k start = record {
  segments = k.segments;
  groups = k.groups;
  externals = k.externals;
  publics = k.publics;
  data_records = k.data_records;
  start = start;
}

-- these tables and this start with a further part of a group, and what counts from it counted
pub part_is : (joined : List Bool) (name ms : List ℕ) (group : ℕ) (store pushed counted : Kept)
    (start started : Option Start) → ms ≡ members joined → group ≡ length store.groups + 1
    → pushed ≡ record store { groups = store.groups ++ record { name = name; members = ms } ∷ [] }
    → counted ≡ record pushed {
      publics = map (public_in joined group) pushed.publics;
      data_records = map (data_in joined group) pushed.data_records;
    } → started ≡ option_map (start_in joined group) start
    → module_of counted started ≡ with_part joined (length store.groups + 1) name (module_of store start)
part_is joined name ms group store pushed counted start started of next push count begin =
    rw (count, push, of, begin, next) refl
