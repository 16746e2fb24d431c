use Rattle.std.proofs.Common.{◌∙◌}
use Rattle.std.specs.Str.{bytes_eq}
use Rattle.omf_place.proofs.NamedLookups.{vector_name, lookup-named}
use Rattle.omf_place.proofs.named.exact_value.Goals as goal

pub returns : goal.returns
returns g c =
    c.copied.ensures ∙ c.get.ensures.value
    ∙ lookup-named vector_name (bytes_eq c.args.name.now) c.args.by_name.now.entries
