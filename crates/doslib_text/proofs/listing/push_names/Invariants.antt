use Rattle.std.proofs.Common.{◌≡◌, ◌++◌, drop}
use Rattle.std.specs.List.{flat_map}
use Rattle.doslib_text.specs.Listing.{name_line}
use Rattle.doslib_text.proofs.listing.push_names.Given as goal

abbrev pub invariant-loop-name : goal.invariant-loop-name
invariant-loop-name g l =
    l.lines.items ++ flat_map (λ n. name_line l.fn.word n.now) (drop l.name-index l.fn.names)
    ≡ l.initial.lines.items ++ flat_map (λ n. name_line l.fn.word n.now) l.fn.names
