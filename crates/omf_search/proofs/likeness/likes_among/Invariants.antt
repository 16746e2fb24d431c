use Rattle.std.proofs.Common.{◌≡◌, map, take}
use Rattle.std.specs.Option.{option_map}
use Rattle.omf_search.specs.inside.Likeness.{like_among}
use Rattle.omf_search.specs.Results.{bytes_of, offered_said}
use Rattle.omf_search.proofs.likeness.likes_among.Given as goal

abbrev pub invariant-loop-name : goal.invariant-loop-name
invariant-loop-name g l = map (option_map offered_said) l.likes.items ≡
    map (like_among (map offered_said l.offered)) (bytes_of (take l.name-index l.asked))
