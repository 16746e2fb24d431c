-- A segment of the program, as the code holds it.
use Rattle.std.specs.Prelude.{List, map}
use Rattle.omf_module.specs.Seen.{segment_seen}
use Rattle.omf_place.specs.Parts as value
use Rattle.omf_place.specs.declared.sites.Site.{Site}

-- as a value
abbrev pub site : Site → value.Site
site a = record { position = a.position; input = a.input; number = a.number; segment = segment_seen a.segment }

-- as values
abbrev pub sites_view : List Site → List value.Site
sites_view ss = map site ss
