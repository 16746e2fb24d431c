use Rattle.std.proofs.Common.{◌∙◌, ap}
use Rattle.std.specs.List.{list_any}
use Rattle.std.specs.Str.{bytes_eq}
use Rattle.omf_place.specs.Names.{spelled}
use Rattle.doslink_telling.proofs.Sets.{any-map}
use Rattle.doslink_telling.proofs.offering.is_missing.Goals as goal

pub returns : goal.returns
returns g c = λ all is.
    c.contains.ensures ∙ is c.in_ok-spelled.spelled
    ∙ any-map (λ n. bytes_eq n c.in_ok-spelled.spelled.items) (spelled c.args.names) all
    ∙ ap (λ s. list_any (λ m. bytes_eq (spelled c.args.names m) s) all) c.in_ok-spelled.ensures
