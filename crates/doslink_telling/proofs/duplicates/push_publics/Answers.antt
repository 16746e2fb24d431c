use Rattle.std.proofs.Common.{◌≡◌, ◌+◌, ◌++◌, ◌∷◌, [], ◌∙◌, ap, append_assoc, get_or, map, sym, take}
use Rattle.std.proofs.lemmas.List.{map-append, take_more}
use Rattle.std.proofs.lemmas.Option.{get_or_from_slice_get, slice_get_within}
use Rattle.omf_module.specs.Seen.{public_seen}
use Rattle.doslink_telling.specs.Duplicates.{public_of}
use Rattle.doslink_telling.specs.inside.Duplicates.{public_said}
use Rattle.doslink_telling.proofs.duplicates.push_publics.Goals as goal

pub loop-index-preserved : goal.loop-index-preserved
loop-index-preserved g c =
    let symbols = c.args.from.now.publics in
    let seen = public_seen c.public_symbol.result in
    let i = c.loop-index.index in
    let f = public_of c.args.names c.args.input in
    let before = map public_said c.args.publics.now.items in
    let here = slice_get_within symbols i seen c.public_symbol.ensures in
    let is : get_or symbols i seen ≡ seen = get_or_from_slice_get symbols i seen seen c.public_symbol.ensures in
    let longer : map f (take (i + 1) symbols) ≡ map f (take i symbols) ++ f seen ∷ [] =
    ap (map f) (take_more symbols i seen here) ∙ map-append f (take i symbols) (get_or symbols i seen ∷ [])
    ∙ ap (λ s. map f (take i symbols) ++ f s ∷ []) is in
    ap (map public_said) c.in_ok-push.ensures.items ∙ map-append public_said c.loop-index.publics.items _
    ∙ ap (λ p. map public_said c.loop-index.publics.items ++ p ∷ []) c.in_ok-public.ensures
    ∙ ap (λ l. l ++ f seen ∷ []) c.loop-index.invariant
    ∙ append_assoc before (map f (take i symbols)) (f seen ∷ [])
    ∙ ap (λ l. before ++ l) (sym longer)
