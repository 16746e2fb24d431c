use Rattle.std.proofs.Common.{◌++◌, ap, ◌∙◌, append_assoc}
use Rattle.omf_search.specs.Results.{bytes_of}
use Rattle.doslink_passes.specs.inside.Defined.{names_held}
use Rattle.doslink_passes.proofs.meanings.push_defined.Goals as goal

pub returns : goal.returns
returns g c =
    let s = c.args.says.now in
    let old = names_held c.args.held.now.items in
    c.in_ok-push_names-3.ensures
    ∙ ap (λ l. l ++ bytes_of s.wanted.now)
    (c.in_ok-push_names-2.ensures ∙ ap (λ l. l ++ bytes_of s.communals.now) c.in_ok-push_names.ensures)
    ∙ append_assoc (old ++ bytes_of s.offered.now) (bytes_of s.communals.now) (bytes_of s.wanted.now)
    ∙ append_assoc old (bytes_of s.offered.now) (bytes_of s.communals.now ++ bytes_of s.wanted.now)
