-- What a record says that is none of the fourteen of 16 bits (TIS OMF 1.1, the section of each), free of how its body
-- spells it.
use Rattle.std.specs.Prelude.{Bool, List, Option}
use Rattle.omf_record.specs.Record.{Record}
use Rattle.omf_wide.specs.declared.externals.ListedExternal.{ListedExternal}
use Rattle.omf_wide.specs.declared.fixups.WideReference.{WideReference}
use Rattle.omf_wide.specs.declared.fixups.WideSubrecord.{WideSubrecord}
use Rattle.omf_wide.specs.declared.segments.WideSegment.{WideSegment}

-- what one of the fourteen says; threads and fix-ups, the end of a module, or a segment, of a record of 32 bits or of
-- 16; external names by their indexes
pub data Said : Type 0 where
  Plain : (record' : Record) → Said
  Fixupp : (wide : Bool) (subrecords : List WideSubrecord) → Said
  Modend : (wide main : Bool) (start : Option WideReference) → Said
  Cextdef : (names : List ListedExternal) → Said
  Segdef : (wide : Bool) (segment : WideSegment) → Said
