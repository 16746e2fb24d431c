-- An entry of a table by its definition.
use Rattle.std.specs.Prelude.{ℕ, ◌-◌, Bool, List, map}
use Rattle.omf_record.specs.Record.{Public, External as ExternalName}
use Rattle.omf_record.specs.Numbers.{segment_len}
use Rattle.omf_record.specs.declared.segments.SegmentDefinition.{SegmentDefinition}
use Rattle.omf_record.specs.declared.externals.PublicBase.{PublicBase}
use Rattle.omf_module.specs.Module.{Segment, Group, ExternalSymbol, PublicSymbol}
use Rattle.omf_module.specs.Tables.{name_at, standing_of}

-- a segment by its definition, with the names before it
abbrev pub segment_of : List (List ℕ) → SegmentDefinition → Segment
segment_of names definition = record {
  name = name_at names definition.name;
  class = name_at names definition.class;
  length = segment_len definition.length;
  standing = standing_of definition.alignment definition.combination;
}

-- a part of a group by its definition, with the names before it; its members count from 0
abbrev pub group_of : List (List ℕ) → ℕ → List ℕ → Group
group_of names name components = record { name = name_at names name; members = map (λ index. index - 1) components }

-- an external by its name
abbrev pub external_of : Bool → ExternalName → ExternalSymbol
external_of local external = record { name = external.name; local = local }

-- a public symbol by its definition
abbrev pub public_of : Bool → PublicBase → Public → PublicSymbol
public_of local base public_symbol =
    record { name = public_symbol.name; base = base; offset = public_symbol.offset; local = local }
