-- The warning of segments of 32 bits, which are linked as ones of 16 (docs/DOSLINK.md, "What is lowered").
use Rattle.std.specs.Prelude.{ℕ, if◌then◌else◌, List, [], ◌∷◌}
use Rattle.std.specs.List.{enumerate_from, flat_map}
use Rattle.omf_plain.specs.declared.widths.Widths.{Widths}
use Rattle.doslink_telling.specs.Lines.{wide_line}
use Rattle.doslink_telling.specs.Missing.{told_lines}
use Rattle.doslink_words.specs.declared.job.Job.{Job}

-- the words of the modules that have such segments
abbrev pub wide_word : (word : ℕ → List ℕ) → ℕ × Widths → List (List ℕ)
wide_word word p = if p.1.segments then word p.0 ∷ [] else []

abbrev pub wide_words : (word : ℕ → List ℕ) → List Widths → List (List ℕ)
wide_words word widths = flat_map (wide_word word) (enumerate_from 0 widths)

-- a warning for each of them, or for each of the first and how many more there are; none where the job is to be quiet
abbrev pub wide_warnings : Job → (word : ℕ → List ℕ) → List Widths → List ℕ
wide_warnings job word widths =
    if job.quiet then [] else told_lines wide_line (wide_words word widths) job.verbose
