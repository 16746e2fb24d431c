-- Parts of FIXUPP and MODEND of 16 bits, said as those of either width.
use Rattle.omf_record.specs.declared.fixups.Reference.{Reference}
use Rattle.omf_record.specs.declared.fixups.Subrecord.{Subrecord}
use Rattle.omf_record.specs.declared.fixups.Subrecord.TheVariants as narrow
use Rattle.omf_wide.specs.declared.fixups.WideLocation.TheVariants.{Of16Bits}
use Rattle.omf_wide.specs.declared.fixups.WideReference.{WideReference}
use Rattle.omf_wide.specs.declared.fixups.WideSubrecord.{WideSubrecord}
use Rattle.omf_wide.specs.declared.fixups.WideSubrecord.TheVariants as wide

abbrev pub widened_reference : Reference → WideReference
widened_reference r = record { frame = r.frame; target = r.target; displacement = r.displacement }

abbrev pub widened : Subrecord → WideSubrecord
widened (narrow.SetFrame n m) = wide.SetFrame n m
widened (narrow.SetTarget n m) = wide.SetTarget n m
widened (narrow.Fixup f) =
    wide.Fixup (record {
      self_relative = f.self_relative;
      location = Of16Bits f.location;
      offset = f.offset;
      reference = widened_reference f.reference;
    })
