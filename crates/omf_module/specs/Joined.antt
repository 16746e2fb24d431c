-- A module with what another defines behind its own: segments, groups and publics (TIS OMF 1.1, SEGDEF, GRPDEF and
-- PUBDEF), whose indexes count on from its own.
use Rattle.std.specs.Prelude.{ℕ, ◌+◌, ◌==◌, ◌||◌, nat_lt, if◌then◌else◌, ◌++◌, length, map, Some, None}
use Rattle.std.specs.declared.option.Option.{Option}
use Rattle.omf_record.specs.declared.externals.PublicBase.{PublicBase}
use Rattle.omf_record.specs.declared.externals.PublicBase.TheVariants.{AtFrame, InSegment}
use Rattle.omf_module.specs.Grouped.{greatest_index}
use Rattle.omf_module.specs.Module.{Group, PublicSymbol, Module}

-- the index of a group behind so many others; 0 means none
abbrev pub group_behind : (groups index : ℕ) → ℕ
group_behind groups index = if index == 0 then 0 else groups + index

-- a part of a group, whose members count from 0, behind so many segments
abbrev pub part_behind : (segments : ℕ) → Group → Group
part_behind segments g = record g { members = map (λ member. segments + member) g.members }

-- what a public counts from, behind so many segments and groups
abbrev pub base_behind : (segments groups : ℕ) → PublicBase → PublicBase
base_behind segments groups (AtFrame group frame) = AtFrame (group_behind groups group) frame
base_behind segments groups (InSegment group segment) =
    InSegment (group_behind groups group) (segments + segment)

-- a public, likewise
abbrev pub public_behind : (segments groups : ℕ) → PublicSymbol → PublicSymbol
public_behind segments groups p = record p { base = base_behind segments groups p.base }

-- the module with what another defines
abbrev pub joined : Module → (more : Module) → Module
joined m more = record {
  segments = m.segments ++ more.segments;
  groups = m.groups ++ map (part_behind (length m.segments)) more.groups;
  externals = m.externals;
  publics = m.publics ++ map (public_behind (length m.segments) (length m.groups)) more.publics;
  data_records = m.data_records;
  start = m.start;
}

-- the same; none, where a segment or a group would have no index
abbrev pub with_declarations : Module → (more : Module) → Option Module
with_declarations m more =
    if nat_lt greatest_index (length m.segments + length more.segments)
    || nat_lt greatest_index (length m.groups + length more.groups) then None else Some (joined m more)
