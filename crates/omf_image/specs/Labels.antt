-- How the faults of data, fix-ups and the start are printed.
use Rattle.std.specs.Prelude.{ℕ, List, codes}
use Rattle.omf_image.specs.declared.faults.FixKind.{FixKind}
use Rattle.omf_image.specs.declared.faults.FixKind.TheVariants.{CoversRelocated, Unresolved, EmptyGroup, Mixed}
use Rattle.omf_image.specs.declared.faults.FixKind.TheVariants.{OutOfFrame, ShortTooFar, OverlapRelocated, TwoStarts}

-- the number and the name
abbrev pub fix_label : FixKind → ℕ × List ℕ
fix_label CoversRelocated = (26, codes "CoversRelocated")
fix_label Unresolved = (27, codes "Unresolved")
fix_label EmptyGroup = (28, codes "EmptyGroup")
fix_label Mixed = (29, codes "Mixed")
fix_label OutOfFrame = (30, codes "OutOfFrame")
fix_label ShortTooFar = (31, codes "ShortTooFar")
fix_label OverlapRelocated = (32, codes "OverlapRelocated")
fix_label TwoStarts = (33, codes "TwoStarts")
