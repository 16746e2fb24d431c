-- The map of a link.
use Rattle.std.specs.Prelude.{ℕ, List}
use Rattle.omf_map.specs.Map.{map_text}
use Rattle.omf_commands.specs.declared.linking.Report.{Report}

-- the map of what was linked
abbrev pub report_map : {A : Type 0} → Report A → List ℕ
report_map report = map_text report.modules.items report.layout report.program
