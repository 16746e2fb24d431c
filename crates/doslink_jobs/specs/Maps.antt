-- The map that is written of a link.
use Rattle.std.specs.Prelude.{ℕ, Bool, false, List, ◌++◌}
use Rattle.omf_commands.specs.declared.linking.Report.{Report}
use Rattle.omf_commands.specs.Mapping.{report_map}
use Rattle.link_map.specs.Map.{shown_map_text}
use Rattle.link_map.specs.declared.form.MapForm.TheVariants as link
use Rattle.link_map.specs.declared.form.Shown.{Shown}
use Rattle.doslink_telling.specs.Table.{table}
use Rattle.doslink_words.specs.declared.job.MapForm.{MapForm}
use Rattle.doslink_words.specs.declared.job.MapForm.TheVariants.{Omf, Link, Tlink}

-- what a map in the form of LINK shows, and one in that of TLINK
abbrev pub shown_by_link : (line_numbers : Bool) → Shown
shown_by_link line_numbers = record { form = link.Link; details = false; line_numbers = line_numbers }

abbrev pub shown_by_tlink : (line_numbers details : Bool) → Shown
shown_by_tlink line_numbers details = record { form = link.Tlink; details = details; line_numbers = line_numbers }

-- the map in the form of a linker, of modules whose bytes and words these are
abbrev pub linker_map : {A : Type 0} → Shown → Report A → (inputs words : List (List ℕ)) → List ℕ
linker_map shown report inputs words =
    shown_map_text shown report.modules.items report.layout report.program inputs words

-- the map as `omf` has it, and behind it the table of the modules; or that of LINK or of TLINK, and nothing behind it
abbrev pub map_bytes : {A : Type 0} → MapForm → Report A → (inputs words : List (List ℕ)) → List ℕ
map_bytes Omf report inputs words = report_map report ++ table report.modules.items report.layout inputs words
map_bytes (Link line_numbers) report inputs words = linker_map (shown_by_link line_numbers) report inputs words
map_bytes (Tlink line_numbers details) report inputs words =
    linker_map (shown_by_tlink line_numbers details) report inputs words
