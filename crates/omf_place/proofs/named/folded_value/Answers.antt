use Rattle.std.proofs.Common.{◌∙◌}
use Rattle.std.specs.Str.{bytes_eq}
use Rattle.omf_place.specs.inside.HeldNames.{key_name}
use Rattle.omf_place.specs.inside.Named.{folded}
use Rattle.omf_place.proofs.NamedLookups.{lookup-named}
use Rattle.omf_place.proofs.named.folded_value.Goals as goal

pub returns : goal.returns
returns g c =
    c.copied.ensures ∙ c.get.ensures.value
    ∙ lookup-named key_name (λ n. bytes_eq (folded c.args.name.now) (folded n)) c.args.by_name.now.entries
