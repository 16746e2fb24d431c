-- What modules mean that are linked: a weak or lazy external that nothing defines means its default, where that is
-- local
-- to its module (TIS OMF 1.1, the comment classes WKEXT and LZEXT); and far data is one group, where it fits in a
-- frame.
use Rattle.std.specs.Prelude.{◌≡◌, ℕ, ◌==◌, ◌&&◌, ◌||◌, Bool, false, true, nat_le, nat_lt, is_some, find, length, min}
use Rattle.std.specs.Prelude.{if◌then◌else◌, unwrap_or, codes, List, [], map, zip, None, Some}
use Rattle.std.specs.declared.option.Option.{Option}
use Rattle.std.specs.List.{range_with_len}
use Rattle.std.specs.Option.{option_and_then, option_map}
use Rattle.omf_library.specs.Defaults.{Defaulted, weak_and_lazy}
use Rattle.omf_library.specs.Records.{module_records}
use Rattle.omf_module.specs.Defaulted.{defaulted}
use Rattle.omf_module.specs.Grouped.{greatest_index, grouped}
use Rattle.omf_module.specs.Before.{entry}
use Rattle.omf_module.specs.Module.{ExternalSymbol, Module}
use Rattle.omf_place.specs.Classes.{TellsFit}
use Rattle.omf_place.specs.declared.names.Names.{Names}
use Rattle.omf_search.specs.Said as search
use Rattle.doslink_words.specs.declared.job.Job.{Job}
use Rattle.doslink_passes.specs.Aliases.{is_defined}
use Rattle.doslink_passes.specs.Linked.{Linked}
use Rattle.doslink_passes.specs.Request.{names_of}

-- ---- local defaults

-- the name of the external of this index
abbrev pub external_name : List ExternalSymbol → (index : ℕ) → List ℕ
external_name externals index = unwrap_or (option_map (λ (e : ExternalSymbol). e.name) (entry externals index)) []

-- in a link whose modules say so of names
module _ (names : Names) (says : List search.Module) where
  -- the index of the default that an external means, one of so many: nothing defines the name that it has, and the
  -- default is local to the module
  abbrev pub local_default : (count : ℕ) → (name : List ℕ) → Defaulted → Option ℕ
  local_default count name d =
      if is_defined names says name || is_some d.default_name then None
      else (if nat_lt 0 d.default_index && nat_le d.default_index count then Some d.default_index else None)

  -- the index of the external that one of so many means: its default, and else itself; the first default that is told
  -- of it counts
  abbrev pub meaning_of : List ExternalSymbol → List Defaulted → (count index : ℕ) → ℕ
  meaning_of externals defaults count index =
      unwrap_or (option_and_then (local_default count (external_name externals index))
      (find (λ d. d.index == index) defaults)) index

  -- of each
  abbrev pub meanings_of : List ExternalSymbol → List Defaulted → (count : ℕ) → List ℕ
  meanings_of externals defaults count = map (meaning_of externals defaults count) (range_with_len 1 count)

  -- what a module means by its externals, whose defaults the bytes tell that it comes from
  abbrev pub with_defaults : List ℕ × Module → Module
  with_defaults (bytes, m) =
      defaulted (meanings_of m.externals (weak_and_lazy (module_records bytes 0))
      (min (length m.externals) greatest_index)) m

-- ---- far data

-- the class of far data, and the name of its group
abbrev pub far_data : List ℕ
far_data = codes "FAR_DATA"

abbrev pub far_group : List ℕ
far_group = codes "AUTO"

-- these are modules with their far data in one group, where it is packed and stands in one frame
abbrev pub ArePacked : (packs : Bool) → List Module → (packed : List Module) → Type 0
ArePacked false modules packed = packed ≡ modules
ArePacked true modules packed =
    (fits : Bool) × TellsFit modules far_data fits
    × (packed ≡ (if fits then map (grouped far_data far_group) modules else modules))

-- ---- both

-- How a link takes modules: which names agree, what the modules say of names, and whether far data is packed.
pub record Taking : Type 0 where
  pub names : Names
  pub says : List search.Module
  pub packs : Bool

-- what is linked means these
abbrev pub AreMeant : Taking → Linked → (meant : List Module) → Type 0
AreMeant t l meant = ArePacked t.packs (map (with_defaults t.names t.says) (zip l.sources l.modules)) meant

-- how a job takes the modules of a link that say so of names
abbrev pub taking_for : Job → (says : List search.Module) → Taking
taking_for job says = record { names = names_of job.ignore_case; says = says; packs = job.packs_far_data }
