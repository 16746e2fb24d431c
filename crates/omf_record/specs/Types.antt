-- The types of the code that say how a record is made, by their names.
pub use Rattle.omf_record.specs.declared.externals.Line.{Line}
pub use Rattle.omf_record.specs.declared.externals.PublicBase.{PublicBase}
pub use Rattle.omf_record.specs.declared.fixups.ThreadNumber.{ThreadNumber}
pub use Rattle.omf_record.specs.declared.fixups.FrameMethod.{FrameMethod}
pub use Rattle.omf_record.specs.declared.fixups.TargetMethod.{TargetMethod}
pub use Rattle.omf_record.specs.declared.fixups.Datum.{Datum}
pub use Rattle.omf_record.specs.declared.fixups.Reference.{Reference}
pub use Rattle.omf_record.specs.declared.fixups.Location.{Location}
pub use Rattle.omf_record.specs.declared.fixups.Subrecord.{Subrecord}
pub use Rattle.omf_record.specs.declared.segments.Alignment.{Alignment}
pub use Rattle.omf_record.specs.declared.segments.Combination.{Combination}
pub use Rattle.omf_record.specs.declared.segments.SegmentLength.{SegmentLength}
pub use Rattle.omf_record.specs.declared.segments.SegmentDefinition.{SegmentDefinition}
