-- What the code's values say.
use Rattle.omf_record.specs.View.{view}
use Rattle.omf_wide.specs.declared.said.Said.{Said}
use Rattle.omf_wide.specs.declared.said.Said.TheVariants as code
use Rattle.omf_wide.specs.Said as says

-- without where slices lie in memory
unfoldable pub said_view : {A : Type 0} → Said A → says.Said
said_view (code.Plain r) = says.Plain (view r)
said_view (code.Fixupp wide subrecords) = says.Fixupp wide subrecords.items
said_view (code.Modend wide main start) = says.Modend wide main start
said_view (code.Cextdef names) = says.Cextdef names.items
said_view (code.Segdef wide segment) = says.Segdef wide segment
