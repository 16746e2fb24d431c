-- What the module of variables that are local to a module says: their segments, the group of the near one and local
-- publics, and nothing else.
use Rattle.std.specs.Prelude.{◌≡◌, ℕ, ◌<◌, Bool, true, List, [], ◌∷◌, ◌++◌, length, map, Option, None, Some, Ok, codes}
use Rattle.std.specs.List.{AllByRecursion}
use Rattle.omf_frame.specs.Frame.{place_limit}
use Rattle.omf_module.specs.declared.Kind.TheVariants.{Private, Public}
use Rattle.omf_module.specs.declared.Standing.TheVariants.{Relocatable}
use Rattle.omf_module.specs.Bytes.{ModuleBytes}
use Rattle.omf_module.specs.Module.{Group, Module, PublicSymbol, Segment}
use Rattle.omf_module.specs.Tables.{module_of}
use Rattle.omf_record.specs.Records.{Placed}
use Rattle.omf_record.specs.declared.externals.PublicBase.TheVariants.{InSegment}
use Rattle.omf_communal.specs.Deciding.{Variable}
use Rattle.omf_communal.specs.Plan.{Place, Plan, nothing_before, plan}
use Rattle.omf_communal.specs.Records.{dgroup, module_bytes, near_name}
use Rattle.omf_communal.specs.Whole.{IsNamed}

-- the segments of a plan: the near one, public and at an even address, and the far ones, private and at a paragraph
abbrev pub near_segments : (in_bss : Bool) → Option ℕ → List Segment
near_segments in_bss None = []
near_segments in_bss (Some length) = record {
  name = near_name in_bss;
  class = codes "BSS";
  length = length;
  standing = Relocatable 2 Public;
} ∷ []

abbrev pub far_segment : (length : ℕ) → Segment
far_segment length = record {
  name = codes "FAR_BSS";
  class = codes "FAR_BSS";
  length = length;
  standing = Relocatable 16 Private;
}

-- its group, DGROUP, with the near segment, which is the first
abbrev pub near_groups : Option ℕ → List Group
near_groups None = []
near_groups (Some length) = record { name = dgroup; members = 0 ∷ [] } ∷ []

-- the name of a variable as a local public
abbrev pub local_public : Place → PublicSymbol
local_public p = record { name = p.name; base = InSegment p.group p.segment; offset = p.offset; local = true }

pub record IsOfVariables (in_bss : Bool) (p : Plan) (m : Module) : Type 0 where
  pub segments : m.segments ≡ near_segments in_bss p.near ++ map far_segment p.far
  pub groups : m.groups ≡ near_groups p.near
  pub externals : m.externals ≡ []
  pub publics : m.publics ≡ map local_public p.places
  pub data_records : m.data_records ≡ []
  pub start : m.start ≡ None

-- the bytes for a plan are those of such a whole module
abbrev pub IsLocalModule : (in_bss : Bool) → Plan → Type 0
IsLocalModule in_bss p =
    (rs : List Placed) × ModuleBytes rs (module_bytes true in_bss p) × IsOfVariables in_bss p (module_of rs)

-- so they are for all variables that have places, where the module is no longer than an input may be
abbrev pub AreLocalModules : Type 0
AreLocalModules =
    (in_bss : Bool) (vs : List Variable) (p : Plan) → AllByRecursion IsNamed vs → plan nothing_before vs ≡ Ok p →
    length (module_bytes true in_bss p) < place_limit → IsLocalModule in_bss p
