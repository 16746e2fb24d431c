use Rattle.std.proofs.Common.{◌∙◌, List, ap, map, subst, sym}
use Rattle.omf_place.proofs.Results.{IfOk-map}
use Rattle.omf_search.specs.declared.likeness.Offered.{Offered}
use Rattle.omf_search.specs.inside.Likeness.{IsIndex, like_among}
use Rattle.omf_search.specs.Results.{bytes_of, offered_said}
use Rattle.omf_search.proofs.likeness.likes.Goals as goal

pub likes_among-requires : goal.likes_among-requires
likes_among-requires g c =
    subst (λ (os : List Offered). IsIndex (map offered_said os) c.in_ok-places.places)
    (c.deref.ensures.value ∙ sym c.deref-2.ensures.value) c.in_ok-places.ensures

pub returns : goal.returns
returns g c =
    IfOk-map _ _ c.likes_among.result (λ v e. e
    ∙ ap (λ os. map (like_among os) (bytes_of c.args.asked.now))
    (ap (map offered_said) c.deref-2.ensures.value ∙ c.in_ok-offered.ensures)) c.likes_among.ensures
