-- The parts of a line, and names where they lie in memory.
use Rattle.std.specs.Prelude.{List, ℕ, decimal}
use Rattle.omf_library.specs.Names.{texts}
use Rattle.omf_record.specs.Numbers.{thread_number}
use Rattle.omf_text.specs.Printing.{hexadecimal, printed_name}
use Rattle.doslib_show.specs.declared.names.Names.{Names}
use Rattle.doslib_show.specs.declared.parts.Part.{Part}
use Rattle.doslib_show.specs.declared.parts.Part.TheVariants as part
use Rattle.doslib_show.specs.More.{extent_text}
use Rattle.doslib_show.specs.Names.{Names as PlainNames, named}
use Rattle.doslib_show.specs.Rows as rows

-- names without where they lie in memory
abbrev pub plain_names : {A : Type 0} → Names A → PlainNames
plain_names names = record {
  listed = texts names.listed.items;
  segments = texts names.segments.items;
  groups = texts names.groups.items;
  externals = texts names.externals.items;
}

-- the text of a part
abbrev pub part_text : PlainNames → Part → List ℕ
part_text names (part.Text text) = text.now
part_text names (part.Name name) = printed_name name.now
part_text names (part.Number n) = decimal n
part_text names (part.Place n) = hexadecimal 8 n
part_text names (part.Offset n) = hexadecimal 4 n
part_text names (part.Location n) = hexadecimal 3 n
part_text names (part.Byte n) = hexadecimal 2 n
part_text names (part.Listed index) = named names.listed index
part_text names (part.Segment index) = named names.segments index
part_text names (part.Group index) = rows.group_of names index
part_text names (part.Thread number) = rows.thread (thread_number number)
part_text names (part.TargetMethod method) = rows.target_method names method
part_text names (part.FrameMethod method) = rows.frame_method names method
part_text names (part.Target target) = rows.target_datum names target
part_text names (part.Frame frame) = rows.frame_datum names frame
part_text names (part.Displacement distance) = rows.displacement distance
part_text names (part.Alignment alignment) = rows.alignment alignment
part_text names (part.Extent extent) = extent_text extent
