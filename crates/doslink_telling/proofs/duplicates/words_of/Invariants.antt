use Rattle.std.proofs.Common.{◌≡◌, [], map, slice_get, take}
use Rattle.std.specs.Option.{unwrap_or}
use Rattle.omf_search.specs.Results.{bytes_of}
use Rattle.doslink_telling.proofs.duplicates.words_of.Given as goal

abbrev pub invariant-loop-each : goal.invariant-loop-each
invariant-loop-each g l =
    bytes_of l.all.items ≡ map (λ o. unwrap_or (slice_get (bytes_of l.words) o.input) []) (take l.each-index l.same)
