use Rattle.std.proofs.Common.{◌≡◌, ◌++◌, ◌∙◌, ap, map, subst}
use Rattle.std.proofs.lemmas.Result.{on_ok_weaker}
use Rattle.doslink_telling.specs.Duplicates.{all_publics, duplicates, lines_of}
use Rattle.doslink_telling.specs.inside.Duplicates.{IsIndex, duplicate_said, public_said}
use Rattle.omf_search.specs.Results.{bytes_of}
use Rattle.doslink_telling.proofs.duplicates.push_duplicates.Goals as goal

pub returns : goal.returns
returns g c = on_ok_weaker c.push_found.result (λ told.
    let s0 = c.args.lines.now.items in
    let words = bytes_of c.args.words.now in
    let all = all_publics c.args.names c.args.modules.now in
    let read : map public_said c.deref.result.now ≡ all =
    ap (map public_said) c.deref.ensures.value ∙ c.in_ok-publics.ensures in
    let read_again : map public_said c.deref-2.result.now ≡ all =
    ap (map public_said) c.deref-2.ensures.value ∙ c.in_ok-publics.ensures in
    let indexed = subst (λ ps. IsIndex ps c.in_ok-places.places) read c.in_ok-places.ensures in
    let found : map duplicate_said c.deref-3.result.now ≡ duplicates all =
    ap (map duplicate_said) c.deref-3.ensures.value ∙ c.in_ok-found.ensures ∙ ap duplicates read_again in
    told all indexed ∙ ap (λ ds. s0 ++ lines_of words all ds c.args.tells_all) found) c.push_found.ensures
