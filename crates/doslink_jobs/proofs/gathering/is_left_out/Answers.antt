use Rattle.std.proofs.Common.{◌∙◌, ap}
use Rattle.std.specs.List.{list_any}
use Rattle.std.specs.Str.{bytes_eq}
use Rattle.doslink_words.specs.Keywords.{is_keyword}
use Rattle.doslink_passes.proofs.Lists.{any-map}
use Rattle.doslink_jobs.specs.inside.Gathering.{folded_stem}
use Rattle.doslink_jobs.proofs.gathering.is_left_out.Goals as goal

pub returns : goal.returns
unfolding is_keyword
returns g c =
    λ names are.
    c.contains.ensures ∙ are c.in_ok-stem.stem
    ∙ any-map (λ n. bytes_eq n c.in_ok-stem.stem.items) folded_stem names
    ∙ ap (λ s. list_any (λ n. bytes_eq (folded_stem n) s) names) c.in_ok-stem.ensures
