-- The warnings of directives that have no effect (docs/DOSLINK.md, "Directives of wlink").
use Rattle.std.specs.Prelude.{◌+◌, ◌-◌, ℕ, if◌then◌else◌, List, [], ◌∷◌, ◌++◌, codes}
use Rattle.std.specs.Prelude.{decimal, map}
use Rattle.std.specs.declared.option.Option.{Option}
use Rattle.std.specs.List.{concat}
use Rattle.std.specs.Option.{option_map_or}
use Rattle.clap.specs.Words.{Text}
use Rattle.doslink_words.specs.declared.job.Job.{Job}
use Rattle.doslink_words.specs.declared.job.Warning.{Warning}
use Rattle.doslink_words.specs.declared.job.WarningKind.{WarningKind}
use Rattle.doslink_words.specs.declared.job.WarningKind.TheVariants as idle
use Rattle.doslink_asked.specs.Spoken.{SourceLine}
use Rattle.doslink_asked.specs.inside.Spoken.{place_in}
use Rattle.doslink_telling.specs.Missing.{told_lines}

-- ---- the warning of one

-- what it says
abbrev pub idle_text : WarningKind → List ℕ
idle_text idle.Option = codes "the option has no effect"
idle_text idle.Symbols = codes "no file of symbols is written"
idle_text idle.Sort = codes "the map is not sorted"
idle_text idle.Disable = codes "no message is left out"

-- the response file and the line
abbrev pub place_text : Option Text × ℕ → List ℕ
place_text place = option_map_or (λ path. path ++ codes ": ") place.0 [] ++ (codes "line " ++ decimal place.1)

abbrev pub idle_line : List SourceLine → Warning → List ℕ
idle_line lines w = concat (codes "doslink: warning: " ∷ place_text (place_in lines w.line)
    ∷ codes ": " ∷ idle_text w.kind ∷ codes "\n" ∷ [])

-- ---- all of them

-- a line for each, or for each of the first and how many more there are; none where the job is to be quiet
abbrev pub idle_warnings : Job → List SourceLine → List Warning → List ℕ
idle_warnings job lines warnings = if job.quiet then [] else told_lines (idle_line lines) warnings job.verbose
