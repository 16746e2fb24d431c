use Rattle.std.proofs.Common.{◌≡◌, ◌++◌, drop, map}
use Rattle.std.specs.List.{flat_map}
use Rattle.omf_search.specs.Results.{wanted_said}
use Rattle.doslib_names.specs.Lines.{missing_text}
use Rattle.doslib_names.specs.Said.{held_said}
use Rattle.doslib_names.proofs.lines.push_missing.Given as goal

abbrev pub invariant-loop-wanted : goal.invariant-loop-wanted
invariant-loop-wanted g l =
    l.text.items
    ++ flat_map (λ w. missing_text (map held_said l.fn.modules) (wanted_said w)) (drop l.wanted-index l.fn.missing)
    ≡ l.initial.text.items
    ++ flat_map (λ w. missing_text (map held_said l.fn.modules) (wanted_said w)) l.fn.missing
