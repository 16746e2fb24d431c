use Rattle.std.proofs.Common.{All, ◌∷◌, [], ap, string_bytes, subst, sym, ◌∙◌}
use Rattle.std.proofs.lemmas.List.{map-append}
use Rattle.std.proofs.lemmas.List.Elements.{All-push}
use Rattle.doslink_files.specs.Files.{contents}
use Rattle.doslink_jobs.specs.Jobs.{IsDefault}
use Rattle.doslink_jobs.proofs.gathering.keep_found.Goals as goal

pub returns-clause-files : goal.returns-clause-files
returns-clause-files g c =
    λ told folders name left_out modules found named before.
    let file = c.in-New.file in
    let old = c.args.round.now.items in
    let is = rw c.in-New.is at found in
    subst (All (IsDefault told folders left_out modules))
    (sym (ap contents c.in_ok-push.ensures.items ∙ map-append (λ f. f.bytes.items) old (file ∷ [])))
    (All-push (IsDefault told folders left_out modules) (contents old) file.bytes.items before
    (name, string_bytes file.path, is, named))
