use Rattle.std.proofs.Common.{sym, ◌∙◌}
use Rattle.std.proofs.lemmas.List.{length-map}
use Rattle.omf_place.specs.inside.Sites.{site, sites_view}
use Rattle.omf_place.proofs.SpanTables.{ends-asked}
use Rattle.omf_place.proofs.spans.segment_spans.Goals as goal

pub greatest_of-requires-clause-asked : goal.greatest_of-requires-clause-asked
greatest_of-requires-clause-asked g c =
    ends-asked (sites_view c.args.sites.now) c.args.addresses c.requires.numbered
    (c.requires.table ∙ sym (length-map c.args.sites.now site)) c.requires.small
