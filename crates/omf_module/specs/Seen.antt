-- What the look-ups hand out.
use Rattle.std.specs.List.{zip}
use Rattle.omf_module.specs.declared.lookups.Segment.{Segment}
use Rattle.omf_module.specs.declared.lookups.Group.{Group}
use Rattle.omf_module.specs.declared.lookups.ExternalSymbol.{ExternalSymbol}
use Rattle.omf_module.specs.declared.lookups.PublicSymbol.{PublicSymbol}
use Rattle.omf_module.specs.declared.lookups.DataRecord.{DataRecord}
use Rattle.omf_module.specs.Module as says

-- a segment that the code hands out, as the module says it
abbrev pub segment_seen : Segment → says.Segment
segment_seen segment =
    record { name = segment.name.now; class = segment.class.now; length = segment.length; standing = segment.standing }

-- a part of a group
abbrev pub group_seen : Group → says.Group
group_seen group = record { name = group.name.now; members = group.members.now }

-- an external name
abbrev pub external_seen : ExternalSymbol → says.ExternalSymbol
external_seen external = record { name = external.name.now; local = external.local }

-- a public name
abbrev pub public_seen : PublicSymbol → says.PublicSymbol
public_seen public_symbol =
    record {
      name = public_symbol.name.now;
      base = public_symbol.base;
      offset = public_symbol.offset;
      local = public_symbol.local;
    }

-- a data record: each stored place beside its byte
abbrev pub data_seen : DataRecord → says.DataRecord
data_seen data' =
    record {
      place = data'.place;
      segment = data'.segment;
      offset = data'.offset;
      pairs = zip data'.places.now data'.bytes.now;
      fixups = data'.fixups.now;
    }
