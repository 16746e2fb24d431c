use Rattle.std.proofs.Common.{◌≡◌, ◌++◌, drop}
use Rattle.std.specs.List.{flat_map}
use Rattle.omf_communal.specs.Far.{reached_said}
use Rattle.doslink_link.specs.Linking.{bytes_of}
use Rattle.doslink_jobs.specs.inside.Warnings.{reached_warning}
use Rattle.doslink_jobs.proofs.warnings.push_told.Given as goal

abbrev pub invariant-loop-each : goal.invariant-loop-each
invariant-loop-each g l =
    l.lines.items ++ flat_map (λ r. reached_warning (bytes_of l.fn.words) (reached_said r))
    (drop l.each-index l.fn.told)
    ≡ l.initial.lines.items ++ flat_map (λ r. reached_warning (bytes_of l.fn.words) (reached_said r)) l.fn.told
