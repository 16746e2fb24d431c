-- The first of each name, as the code holds them.
use Rattle.std.specs.Prelude.{◌≡◌, List, map, Option}
use Rattle.std.specs.List.{AllByRecursion}
use Rattle.std.specs.Option.{option_map}
use Rattle.omf_keys.specs.declared.key.Key.{Key}
use Rattle.omf_keys.specs.Keys.{key_of}
use Rattle.omf_place.specs.declared.names.Names.{Names}
use Rattle.omf_comdat.specs.Comdats.{records_said}
use Rattle.omf_comdat.specs.Fates.{Going, Shared, Standing}
use Rattle.omf_comdat.specs.declared.fate.ComdatFate.{ComdatFate}
use Rattle.omf_comdat.specs.declared.fates.Going as lent_going
use Rattle.omf_comdat.specs.declared.fates.Standing as held
use Rattle.omf_comdat.specs.declared.meeting.Shared as lent

-- one of them
abbrev pub shared_said : lent.Shared → Shared
shared_said s = record {
  name = s.name.now;
  selection = s.selection;
  size = s.size;
  records = records_said s.records.now;
  «module» = s.«module»;
}

-- those of a map, in the order in which they were met
abbrev pub firsts_said : List (Key × lent.Shared) → List Shared
firsts_said entries = map (λ e. shared_said e.1) entries

-- each stands at the key of its name
abbrev pub AreKeyed : Names → List (Key × lent.Shared) → Type 0
AreKeyed names entries = AllByRecursion (λ e. e.0 ≡ key_of names e.1.name) entries

-- what records may go on with
abbrev pub going_said : Option lent_going.Going → Option Going
going_said going = option_map (λ g. record { name = g.name.now; taken = g.taken }) going

abbrev pub fate_said : ComdatFate × Option lent_going.Going → ComdatFate × Option Going
fate_said p = (p.0, going_said p.1)

-- what stands behind some records
abbrev pub standing_said : {A : Type 0} → held.Standing A → Standing
standing_said s = record { firsts = firsts_said s.firsts.entries; going = going_said s.going }
